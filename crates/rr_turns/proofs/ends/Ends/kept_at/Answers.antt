use Rattle.std.proofs.Common.{◌≡◌, ◌+◌, ℕ, List, sym, ap, ◌∙◌}
use Rattle.std.specs.Prelude.{Some, slice_get}
use Rattle.std.proofs.lemmas.Option.{get_or_from_slice_get}
use Rattle.rr_turns.proofs.PlaceLemmas.{place-get}
use Rattle.rr_turns.proofs.ends.Ends.kept_at.Goals as goal

pub returns-clause-value : goal.returns-clause-value
returns-clause-value c =
    sym (ap (λ (xs : List ℕ). slice_get xs c.args.turn) (sym c.self.view_is) ∙ place-get c.self.inside.words c.args.turn c.in_ok-place.place c.in_ok-place.ensures)

pub returns-clause-kept : goal.returns-clause-kept
returns-clause-kept c =
    let found : slice_get c.args.self.now c.args.turn ≡ Some (c.in_ok-place.place + 1) =
    ap (λ (xs : List ℕ). slice_get xs c.args.turn) (sym c.self.view_is) ∙ place-get c.self.inside.words c.args.turn c.in_ok-place.place c.in_ok-place.ensures in
    sym (get_or_from_slice_get c.args.self.now c.args.turn (c.in_ok-place.place + 1) 0 found)
