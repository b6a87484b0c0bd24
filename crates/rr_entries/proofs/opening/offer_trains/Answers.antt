use Rattle.std.proofs.Common.{◌≤◌, ℕ, List, ◌++◌, length, map, get_or, ap, sym, ◌∙◌, arith, rules}
use Rattle.std.specs.List.{flat_map, range_with_len}
use Rattle.std.proofs.lemmas.List.{take_all}
use Rattle.rr_roster.specs.declared.company.Kind.{Kind}
use Rattle.rr_roster.specs.declared.company.Kind.TheVariants.{Two}
use Rattle.rr_roster.specs.Terms.{count_of}
use Rattle.rr_books.specs.Book.{Book}
use Rattle.rr_books.specs.Opening.{kinds}
use Rattle.rr_entries.specs.Opening.{train_offered}
use Rattle.rr_entries.proofs.OpeningLemmas.{all_trains, offered_more}
use Rattle.rr_entries.proofs.opening.offer_trains.Goals as goal

pub loop-kind-preserved : goal.loop-kind-preserved
loop-kind-preserved c =
    offered_more (λ (k : Kind). map (train_offered k) (range_with_len 1 (count_of c.args.roster.now k))) kinds c.loop-kind.kind-index Two c.args.entries.now c.loop-kind.entries
    c.offer_kind.new.entries (search rules) c.loop-kind.invariant
    (c.in_ok-offer_kind.ensures.ok
    ∙ ap (λ (n : ℕ). c.loop-kind.entries ++ map (train_offered (get_or kinds c.loop-kind.kind-index Two)) (range_with_len 1 n)) c.count.ensures.value)

pub returns-clause-ok : goal.returns-clause-ok
returns-clause-ok c =
    let past : length kinds ≤ c.loop-kind.kind-index = omega (arith, c.loop-kind-test.false) in
    c.loop-kind.invariant
    ∙ ap (λ (ks : List Kind). c.args.entries.now ++ flat_map (λ (k : Kind). map (train_offered k) (range_with_len 1 (count_of c.args.roster.now k))) ks) (take_all c.loop-kind.kind-index kinds past)
    ∙ ap (λ (l : Book). c.args.entries.now ++ l) (sym (all_trains c.args.roster.now))
