use Rattle.std.proofs.Common.{◌≡◌, ℕ, ◌+◌, ◌-◌, ◌<◌, List, [], ◌∷◌, ◌++◌, sym, ap, ◌∙◌, subst, arith}
use Rattle.std.specs.List.{All}
use Rattle.rr_turns.specs.Counts.{AreEnds}
use Rattle.rr_turns.specs.Sets.{are_ends}
use Rattle.rr_turns.proofs.PlaceLemmas.{added-counts, later-positive}
use Rattle.rr_turns.proofs.ends.Ends.add.Goals as goal

pub overflow_sub-count : goal.overflow_sub-count
overflow_sub-count c =
    later-positive c.args.self.now c.args.count (subst AreEnds c.self.view_is (are_ends c.self.inside.words c.self.invariant)) c.requires.later

pub returns : goal.returns
returns c =
    let count = c.args.count in
    let place = count - 1 in
    let some = later-positive c.args.self.now count (subst AreEnds c.self.view_is (are_ends c.self.inside.words c.self.invariant)) c.requires.later in
    let whole : place + 1 ≡ count = omega (arith, some) in
    added-counts c.self.inside.words c.put.new.words place (omega (arith, some, c.requires.most))
    (subst (λ (xs : List ℕ). All (λ (earlier : ℕ). earlier < place + 1) xs) (sym c.self.view_is)
    (subst (λ (n : ℕ). All (λ (earlier : ℕ). earlier < n) c.args.self.now) (sym whole) c.requires.later))
    c.put.ensures.held c.put.ensures.others
    ∙ ap (λ (xs : List ℕ). xs ++ (place + 1) ∷ []) c.self.view_is
    ∙ ap (λ (n : ℕ). c.args.self.now ++ n ∷ []) whole
