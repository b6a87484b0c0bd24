use Rattle.std.proofs.Common.{arith, ap, sym, ◌∙◌, length, length-append}
use Rattle.rr_words.specs.Spelling.Number.{spelled_number}
use Rattle.rr_words.proofs.SpellingLemmas.NumberLemmas.{length-spelled_number}
use Rattle.rr_reading.proofs.DirLemmas.NumberLemmas.{cut_number}
use Rattle.rr_reading.proofs.dir.reading.next_snapshot_count.Goals.{else-number-ne0-via-then-number-ne0+else-from-le-MOST_SNAPSHOTS, else-number-ne0-via-else-number-ne0}
use Rattle.rr_reading.proofs.dir.reading.next_snapshot_count.Goals as goal

pub returns-in_err-number : goal.returns-in_err-number
returns-in_err-number c =
    rw c.from_residual.ensures (λ number rest some few same. omega (arith, ap length same, length-append (spelled_number 2 number) rest, length-spelled_number 2 number, c.in_err-number.ensures))

pub returns-else-number-ne0 : goal.returns-else-number-ne0
returns-else-number-ne0 c number rest some few same =
    let one = (cut_number 2 c.in_ok-number.number number c.u16.new.self rest (omega (arith, c.in_ok-number.ensures.0)) (omega (arith, few)) (sym c.in_ok-number.ensures.1 ∙ same)).0 in
    elim c.else-number-ne0.branch [
      | else-number-ne0-via-then-number-ne0+else-from-le-MOST_SNAPSHOTS w ↦ omega (arith, one, few, w.if-from-le-MOST_SNAPSHOTS.false, w.from.ensures)
      | else-number-ne0-via-else-number-ne0 w ↦ omega (arith, one, some, w.if-number-ne0.false)
    ]
