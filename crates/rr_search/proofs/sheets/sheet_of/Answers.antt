use Rattle.std.proofs.Common.{◌≡◌, ◌<◌, List, ℕ, suc, map, get_or, length, refl, sym, ◌∙◌, ap, subst, arith}
use Rattle.std.specs.List.{Contains}
use Rattle.std.proofs.lemmas.Option.{slice_get_read, slice_get-get_or}
use Rattle.rr_roster.specs.declared.company.Kind.TheVariants.{Two}
use Rattle.rr_checker.specs.declared.trips.Journey.{Journey}
use Rattle.rr_search.specs.Orientation.{ascending}
use Rattle.rr_search.proofs.FoundLemmas.{sheet_next}
use Rattle.rr_search.proofs.sheets.sheet_of.Goals as goal

pub numbers_of-requires : goal.numbers_of-requires
numbers_of-requires c link on =
    let inside : c.loop-train.train < length c.args.journeys.now = (let same = c.requires.complete in omega arith) in
    c.requires.numbers c.index-journeys-train.result link
    (c.loop-train.train, inside, sym c.index-journeys-train.is)
    (subst (λ (xs : List ℕ). Contains xs link) c.deref.ensures.value on)

pub loop-train-preserved : goal.loop-train-preserved
loop-train-preserved c =
    let inside : c.loop-train.train < length c.args.kinds.now = omega arith in
    let along : c.loop-train.train < length c.args.journeys.now = (let same = c.requires.complete in omega arith) in
    sheet_next c.args.kinds.now c.args.journeys.now c.loop-train.train c.loop-train.sheet c.push.new.self (get_or c.args.kinds.now c.loop-train.train Two)
    c.index-journeys-train.result (record { kind = get_or c.args.kinds.now c.loop-train.train Two; links = c.in_ok-links.links }) c.loop-train.invariant
    (c.in_ok-push.ensures.ok) (slice_get-get_or c.args.kinds.now c.loop-train.train Two inside)
    (slice_get_read c.args.journeys.now (length c.args.journeys.now) c.loop-train.train c.index-journeys-train.result refl along c.index-journeys-train.is)
    refl (c.in_ok-links.ensures {u = tt} ∙ ap (λ (ls : List ℕ). map suc (ascending ls)) c.deref.ensures.value)
