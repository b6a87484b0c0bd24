-- That a half of a file has one run of records, whatever the file holds.
use Rattle.std.specs.Prelude.{◌≡◌, ℕ, List}
use Rattle.rr_pages.specs.declared.journal.layout.HalfIndex.{HalfIndex}
use Rattle.rr_pages.specs.declared.journal.reading.RunEnd.{RunEnd}
use Rattle.rr_pages.specs.Journal.Run.{Run}

abbrev pub HasRun : List ℕ → HalfIndex → ℕ → Type 0
HasRun file half first = (lines : List (List ℕ)) × (end : RunEnd) × Run file half 0 first lines end

abbrev pub HasNoOther : List ℕ → HalfIndex → ℕ → Type 0
HasNoOther file half first =
    (lines others : List (List ℕ)) (end other : RunEnd) → Run file half 0 first lines end → Run file half 0 first others other → (others ≡ lines) × (other ≡ end)
