use Rattle.rr_reading.proofs.DirLemmas.NumberLemmas.{Continues-added}
use Rattle.rr_reading.proofs.dir.writing.write_tables.Goals as goal

pub returns-in_err-write_table-clause-kept : goal.returns-in_err-write_table-clause-kept
returns-in_err-write_table-clause-kept c =
    Continues-added _ _ _ _ c.in_ok-write_u16.ensures.ok (Continues-added _ _ _ _ c.loop-table.invariant c.in_err-write_table.ensures.kept)
