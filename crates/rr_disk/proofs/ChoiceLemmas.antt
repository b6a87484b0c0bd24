-- What a stop with a choice leaves is an image.
use Rattle.std.proofs.Common.{◌≡◌, ◌⊎◌, inl, inr, ℕ, ◌+◌, ◌-◌, ◌<◌, ◌≤◌, min, List, [], ◌∷◌, length, take, replicate, get_or, refl, ◌∙◌, arith, length-append, length-drop}
use Rattle.std.specs.List.{All, AllByRecursion}
use Rattle.std.proofs.lemmas.List.Elements.{recursion_from_All}
use Rattle.std.proofs.lemmas.List.{length-take, length-replicate, get_or-take}
use Rattle.rr_disk.specs.Disk.{DiskState, IsOutside, IsImage, written}
use Rattle.rr_disk.specs.Range.{IsWithin}
use Rattle.rr_disk.specs.Choice.{part, laid, all_laid, padded, chosen, FitsRange, FitRanges, IsChoice}
use Rattle.rr_disk.specs.declared.choice.Kept.{Kept}
use Rattle.rr_disk.specs.declared.choice.Kept.TheVariants.{Old, New, Front, Fill}
use Rattle.rr_disk.proofs.ImageLemmas.{length-written, written_outside, padded_same}

length-part : (file : List ℕ) (start end : ℕ) → length (part file start end) ≡ min (end - start) (length file - start)
length-part file start end = simp (length-take, length-drop) refl

-- bytes that end within a range stay within it
stays_within : (file : List ℕ) (range : ℕ × ℕ) (bytes : List ℕ) → IsWithin (length file) range → range.0 + length bytes ≤ range.1 → length (written file range.0 bytes) ≡ length file
stays_within file range bytes within inside = length-written file range.0 bytes ∙ (omega arith)

leaves_outside : (file : List ℕ) (range : ℕ × ℕ) (bytes : List ℕ) (i : ℕ) → range.0 + length bytes ≤ range.1 → (i < range.0) ⊎ (range.1 ≤ i) → get_or (written file range.0 bytes) i 0 ≡ get_or file i 0
leaves_outside file range bytes i inside (inl before) = written_outside file range.0 bytes i (inl before)
leaves_outside file range bytes i inside (inr behind) = written_outside file range.0 bytes i (inr (omega arith))

-- what one choice puts into a range
new_inside : (content : List ℕ) (n : ℕ) (range : ℕ × ℕ) → IsWithin n range → range.0 + length (part content range.0 range.1) ≤ range.1
new_inside content n range within = omega (arith, length-part content range.0 range.1)

front_inside : (content : List ℕ) (range : ℕ × ℕ) (n : ℕ) → range.0 + n ≤ range.1 → range.0 + length (part content range.0 (range.0 + n)) ≤ range.1
front_inside content range n fits = omega (arith, length-part content range.0 (range.0 + n))

fill_inside : (byte n : ℕ) (range : ℕ × ℕ) → IsWithin n range → range.0 + length (replicate (range.1 - range.0) byte) ≤ range.1
fill_inside byte n range within = omega (arith, length-replicate (range.1 - range.0) byte)

length-laid : (content : List ℕ) (range : ℕ × ℕ) (kept : Kept) (file : List ℕ) → IsWithin (length file) range → FitsRange range kept → length (laid content range kept file) ≡ length file
length-laid content range Old file within fits = refl
length-laid content range New file within fits = stays_within file range (part content range.0 range.1) within (new_inside content (length file) range within)
length-laid content range (Front n) file within fits = stays_within file range (part content range.0 (range.0 + n)) within (front_inside content range n fits)
length-laid content range (Fill byte) file within fits = stays_within file range (replicate (range.1 - range.0) byte) within (fill_inside byte (length file) range within)

laid_outside : (content : List ℕ) (range : ℕ × ℕ) (kept : Kept) (file : List ℕ) (i : ℕ) → IsWithin (length file) range → FitsRange range kept → (i < range.0) ⊎ (range.1 ≤ i) → get_or (laid content range kept file) i 0 ≡ get_or file i 0
laid_outside content range Old file i within fits apart = refl
laid_outside content range New file i within fits apart = leaves_outside file range (part content range.0 range.1) i (new_inside content (length file) range within) apart
laid_outside content range (Front n) file i within fits apart = leaves_outside file range (part content range.0 (range.0 + n)) i (front_inside content range n fits) apart
laid_outside content range (Fill byte) file i within fits apart = leaves_outside file range (replicate (range.1 - range.0) byte) i (fill_inside byte (length file) range within) apart

module _ (content : List ℕ) (len : ℕ) where
  pub length-all_laid : (ranges : List (ℕ × ℕ)) (choices : List Kept) (file : List ℕ) → length file ≡ len → AllByRecursion (IsWithin len) ranges → FitRanges ranges choices → length (all_laid content ranges choices file) ≡ len
  length-all_laid [] choices file is within fits = is
  length-all_laid (range ∷ ranges) [] file is within fits = is
  length-all_laid (range ∷ ranges) (kept ∷ choices) file is within fits =
      length-all_laid ranges choices (laid content range kept file) (length-laid content range kept file (within.0.0, omega arith) fits.0 ∙ is) within.1 fits.1

  pub all_laid_outside : (ranges : List (ℕ × ℕ)) (choices : List Kept) (file : List ℕ) (i : ℕ) → length file ≡ len → AllByRecursion (IsWithin len) ranges → FitRanges ranges choices → IsOutside ranges i
      → get_or (all_laid content ranges choices file) i 0 ≡ get_or file i 0
  all_laid_outside [] choices file i is within fits out = refl
  all_laid_outside (range ∷ ranges) [] file i is within fits out = refl
  all_laid_outside (range ∷ ranges) (kept ∷ choices) file i is within fits out =
      all_laid_outside ranges choices (laid content range kept file) i (length-laid content range kept file (within.0.0, omega arith) fits.0 ∙ is) within.1 fits.1 out.1
      ∙ laid_outside content range kept file i (within.0.0, omega arith) fits.0 out.0

pub chosen_image : (state : DiskState) (choices : List Kept) (n : ℕ) → IsImage state state.content → All (IsWithin (length state.content)) state.ranges → IsChoice state choices n → IsImage state (chosen state choices n)
chosen_image state choices n stays within choice =
    let len = length state.content in
    let ranges = recursion_from_All (IsWithin len) state.ranges within in
    let pad_len : length (padded state) ≡ len = simp (length-append, length-replicate) (omega (arith, stays.no_shorter)) in
    let whole = all_laid state.content state.ranges choices (padded state) in
    let whole_len : length whole ≡ len = length-all_laid state.content len state.ranges choices (padded state) pad_len ranges choice.fronts in
    let size : length (take n whole) ≡ n = length-take n whole ∙ (omega (arith, choice.no_longer)) in
    record {
      no_shorter = omega (arith, choice.no_shorter);
      no_longer = omega (arith, choice.no_longer, stays.no_longer);
      kept = λ i h out.
          get_or-take n whole i 0 (omega (arith, choice.no_shorter))
          ∙ (all_laid_outside state.content len state.ranges choices (padded state) i pad_len ranges choice.fronts out ∙ padded_same state.settled (len - length state.settled) i);
    }
