use Rattle.std.proofs.Common.{arith, ap, length, length-append}
use Rattle.rr_words.specs.Spelling.Number.{spelled_number}
use Rattle.rr_words.proofs.SpellingLemmas.NumberLemmas.{length-spelled_number}
use Rattle.rr_reading.proofs.dir.reading.next_snapshot_entry.Goals as goal

pub returns-in_err-kept : goal.returns-in_err-kept
returns-in_err-kept c =
    rw c.from_residual-in_err-kept.ensures (omega (arith, ap length c.in_ok-table.ensures.1, length-append (spelled_number 2 c.in_ok-table.table) c.u16.new.self, length-spelled_number 2 c.in_ok-table.table, c.in_err-kept.ensures))

pub returns-in_err-chain : goal.returns-in_err-chain
returns-in_err-chain c =
    rw c.from_residual-in_err-chain.ensures (omega (
      arith,
      ap length c.in_ok-table.ensures.1,
      length-append (spelled_number 2 c.in_ok-table.table) c.u16.new.self,
      length-spelled_number 2 c.in_ok-table.table,
      ap length c.in_ok-kept.ensures.1,
      length-append (spelled_number 4 c.in_ok-kept.kept) c.u32.new.self,
      length-spelled_number 4 c.in_ok-kept.kept,
      c.in_err-chain.ensures,
    ))
