-- An array that holds a list, with one item more.
use Rattle.std.proofs.Common.{◌≡◌, ℕ, ◌+◌, ◌-◌, ◌<◌, ◌≤◌, List, length, drop, replicate, set, arith, sym, ◌∙◌, ap}
use Rattle.std.proofs.lemmas.List.{drop-drop, drop-replicate, drop-set-lt, length-set}
use Rattle.rr_desk.specs.Layout.Slots.{IsFilled}

pub filled_more : {X : Type 0} (filler : X) (capacity taken : ℕ) (slots : List X) (item : X) → taken < capacity → IsFilled filler capacity taken slots → IsFilled filler capacity (taken + 1) (set slots taken item)
filled_more filler capacity taken slots item room h = record {
  fits = omega (arith, room);
  all = length-set slots taken item ∙ h.all;
  rest =
      drop-set-lt (taken + 1) slots taken item (omega arith)
      ∙ sym (drop-drop 1 taken slots)
      ∙ ap (drop 1) h.rest
      ∙ drop-replicate 1 (capacity - taken) filler
      ∙ ap (λ n. replicate n filler) (omega (arith, room));
}
