-- How many records a half has.
use Rattle.std.proofs.Common.{◌≡◌, ℕ, ◌≤◌, List, [], ◌∷◌, length, min, Vec, arith}
use Rattle.std.proofs.lemmas.List.{length-map}
use Rattle.std.specs.declared.alloc.Global.{Global}
use Rattle.rr_pages.specs.Journal.Reading.{lines}
use Rattle.rr_pages.specs.Journal.Run.{slots_of}
use Rattle.rr_pages.proofs.JournalLemmas.Runs.{some_slot}

-- each takes a slot at least
pub few_lines : (lines : List (List ℕ)) → length lines ≤ slots_of lines
few_lines [] = omega arith
few_lines (line ∷ lines) = omega (arith, some_slot (length line), few_lines lines)

-- so the lesser of both counts is theirs
pub counted_lines : (records : List (Vec ℕ Global)) (slots : ℕ) → slots ≡ slots_of (lines records) → min (length records) slots ≡ length (lines records)
counted_lines records slots is =
    let same = length-map records (λ (bytes : Vec ℕ Global). bytes.items) in
    let few = few_lines (lines records) in
    omega (arith, is, few, same)
