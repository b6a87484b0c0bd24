use Rattle.std.proofs.Common.{length, take, arith}
use Rattle.std.proofs.lemmas.List.{length-take}
use Rattle.rr_disk.proofs.FailureLemmas.{front_failed}
use Rattle.rr_disk.proofs.faulty.FaultyDiskDisk.write_at.Goals as goal

pub returns-then-not-is_empty-clause-failed : goal.returns-then-not-is_empty-clause-failed
returns-then-not-is_empty-clause-failed g c honest =
    front_failed c.write_at.result c.args.at (length c.args.bytes.now) (take c.min.result c.args.bytes.now) _ _ _ _ (rw length-take (omega arith)) honest c.write_at.ensures.written c.write_at.ensures.passed c.write_at.ensures.failed
