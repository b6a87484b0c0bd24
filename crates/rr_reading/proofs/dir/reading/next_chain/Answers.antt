use Rattle.std.proofs.Common.{arith, ap, length, length-append}
use Rattle.rr_words.specs.Spelling.Number.{spelled_number}
use Rattle.rr_words.proofs.SpellingLemmas.NumberLemmas.{length-spelled_number}
use Rattle.rr_reading.proofs.dir.reading.next_chain.Goals as goal

pub returns-in_err-length : goal.returns-in_err-length
returns-in_err-length c =
    rw c.from_residual-in_err-length.ensures (omega (arith, ap length c.in_ok-head.ensures.1, length-append (spelled_number 8 c.in_ok-head.head) c.u64.new.self, length-spelled_number 8 c.in_ok-head.head, c.in_err-length.ensures))
