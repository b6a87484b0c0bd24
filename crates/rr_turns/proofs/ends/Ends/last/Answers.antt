use Rattle.std.proofs.Common.{◌≡◌, ◌+◌, ◌-◌, ℕ, List, length, subst}
use Rattle.std.specs.Prelude.{Some, slice_get}
use Rattle.rr_turns.specs.Counts.{AreEnds}
use Rattle.rr_turns.specs.Sets.{are_ends}
use Rattle.rr_turns.proofs.PlaceLemmas.{greatest-last, last-get}
use Rattle.rr_turns.proofs.ends.Ends.last.Goals as goal

pub returns-clause-value : goal.returns-clause-value
returns-clause-value c =
    let place = c.last_place.result in
    subst (λ (counts : List ℕ). slice_get counts (length counts - 1) ≡ Some (place + 1)) c.self.view_is
    (last-get c.self.inside.words place c.last_place.ensures.within c.last_place.ensures.held c.last_place.ensures.above)

pub returns-clause-greatest : goal.returns-clause-greatest
returns-clause-greatest c =
    let place = c.last_place.result in
    let ends = subst AreEnds c.self.view_is (are_ends c.self.inside.words c.self.invariant) in
    greatest-last c.args.self.now (place + 1) ends
    (subst (λ (counts : List ℕ). slice_get counts (length counts - 1) ≡ Some (place + 1)) c.self.view_is
    (last-get c.self.inside.words place c.last_place.ensures.within c.last_place.ensures.held c.last_place.ensures.above))
