use Rattle.std.proofs.Common.{arith, ap, sym, ◌∙◌, length, length-append}
use Rattle.rr_words.specs.Spelling.Number.{spelled_number}
use Rattle.rr_words.proofs.SpellingLemmas.NumberLemmas.{length-spelled_number}
use Rattle.rr_reading.proofs.DirLemmas.NumberLemmas.{cut_number}
use Rattle.rr_reading.proofs.dir.reading.next_count.Goals as goal

pub returns-in_err-count : goal.returns-in_err-count
returns-in_err-count c =
    rw c.from_residual.ensures (λ count rest few same. omega (arith, ap length same, length-append (spelled_number 2 count) rest, length-spelled_number 2 count, c.in_err-count.ensures))

pub returns-else-from-le-MOST_TABLES : goal.returns-else-from-le-MOST_TABLES
returns-else-from-le-MOST_TABLES c count rest few same =
    let one = (cut_number 2 c.in_ok-count.count count c.u16.new.self rest (omega (arith, c.in_ok-count.ensures.0)) (omega (arith, few)) (sym c.in_ok-count.ensures.1 ∙ same)).0 in
    omega (arith, one, few, c.if-from-le-MOST_TABLES.false, c.from.ensures)
