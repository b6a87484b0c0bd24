-- The image that a stop with a choice leaves.
use Rattle.std.specs.Prelude.{◌≡◌, ℕ, ◌+◌, ◌-◌, ◌≤◌, List, [], ◌∷◌, ◌++◌, length, take, drop, replicate}
use Rattle.rr_disk.specs.Disk.{DiskState, written}
use Rattle.rr_disk.specs.declared.choice.Kept.{Kept}
use Rattle.rr_disk.specs.declared.choice.Kept.TheVariants.{Old, New, Front, Fill}

-- what a file has between two places
abbrev pub part : List ℕ → ℕ → ℕ → List ℕ
part file start end = take (end - start) (drop start file)

-- the file after the choice for one range, where content is what a read gives
abbrev pub laid : List ℕ → ℕ × ℕ → Kept → List ℕ → List ℕ
laid content range Old file = file
laid content range New file = written file range.0 (part content range.0 range.1)
laid content range (Front n) file = written file range.0 (part content range.0 (range.0 + n))
laid content range (Fill byte) file = written file range.0 (replicate (range.1 - range.0) byte)

-- the file after the choices for all ranges, in order of writing
abbrev pub all_laid : List ℕ → List (ℕ × ℕ) → List Kept → List ℕ → List ℕ
all_laid content [] choices file = file
all_laid content (range ∷ ranges) [] file = file
all_laid content (range ∷ ranges) (kept ∷ choices) file = all_laid content ranges choices (laid content range kept file)

-- the settled file, made as long as the content by zeros
abbrev pub padded : DiskState → List ℕ
padded state = state.settled ++ replicate (length state.content - length state.settled) 0

-- what the choices leave, cut to a length
abbrev pub chosen : DiskState → List Kept → ℕ → List ℕ
chosen state choices n = take n (all_laid state.content state.ranges choices (padded state))

-- a front is no longer than its range
abbrev pub FitsRange : ℕ × ℕ → Kept → Type 0
FitsRange range Old = Unit {0}
FitsRange range New = Unit {0}
FitsRange range (Front n) = range.0 + n ≤ range.1
FitsRange range (Fill byte) = Unit {0}

abbrev pub FitRanges : List (ℕ × ℕ) → List Kept → Type 0
FitRanges [] choices = Unit {0}
FitRanges (range ∷ ranges) [] = Unit {0}
FitRanges (range ∷ ranges) (kept ∷ choices) = FitsRange range kept × FitRanges ranges choices

-- a choice for each range, and a length that a stop may leave
pub record IsChoice (state : DiskState) (choices : List Kept) (n : ℕ) : Type 0 where
  pub one_each : length choices ≡ length state.ranges
  pub fronts : FitRanges state.ranges choices
  pub no_shorter : length state.settled ≤ n
  pub no_longer : n ≤ length state.content
