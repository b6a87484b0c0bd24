-- Where roots and halves lie.
use Rattle.std.proofs.Common.{◌≡◌, ◌⊎◌, inl, inr, ◌+◌, ◌≤◌, Bool, true, false, not, refl, arith}
use Rattle.rr_pages.specs.Journal.Layout.{start_page, other_half}
use Rattle.rr_pages.specs.Roots.{root_page}
use Rattle.rr_pages.specs.declared.journal.layout.HalfIndex.TheVariants.{First, Second}
use Rattle.rr_pages.specs.declared.journal.layout.HalfIndex.{HalfIndex}

pub root_low : (side : Bool) → root_page side ≤ 1
root_low false = omega arith
root_low true = omega arith

pub roots_apart : (side : Bool) → root_page side + root_page (not side) ≡ 1
roots_apart false = refl
roots_apart true = refl

pub half_low : (half : HalfIndex) → 2 ≤ start_page half
half_low First = omega arith
half_low Second = omega arith

pub other_other : (half : HalfIndex) → other_half (other_half half) ≡ half
other_other First = refl
other_other Second = refl

pub half_high : (half : HalfIndex) → start_page half + 256 ≤ 514
half_high First = omega arith
half_high Second = omega arith

pub halves_apart : (half : HalfIndex) → (start_page half + 256 ≤ start_page (other_half half)) ⊎ (start_page (other_half half) + 256 ≤ start_page half)
halves_apart First = inl (omega arith)
halves_apart Second = inr (omega arith)
