use Rattle.std.proofs.Common.{◌≡◌, length}
use Rattle.rr_checkpoint.specs.Plan.Snapshots.{snapshot_of}
use Rattle.rr_checkpoint.specs.Plan.Standing.{from}
use Rattle.rr_checkpoint.proofs.plan.standing.those_from.Given as goal

abbrev pub invariant-loop-rest : goal.invariant-loop-rest
invariant-loop-rest l = from (snapshot_of l.snapshot) l.rest ≡ from (snapshot_of l.fn.snapshot) l.fn.standing

abbrev pub decreases-loop-rest : goal.decreases-loop-rest
decreases-loop-rest l = length l.rest
