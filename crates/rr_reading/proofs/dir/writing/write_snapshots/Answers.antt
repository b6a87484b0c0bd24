use Rattle.rr_reading.proofs.DirLemmas.NumberLemmas.{Continues-added}
use Rattle.rr_reading.proofs.dir.writing.write_snapshots.Goals as goal

pub returns-in_err-write_snapshot-clause-kept : goal.returns-in_err-write_snapshot-clause-kept
returns-in_err-write_snapshot-clause-kept c =
    Continues-added _ _ _ _ c.in_ok-write_u16.ensures.ok (Continues-added _ _ _ _ c.loop-snapshot.invariant c.in_err-write_snapshot.ensures.kept)
