use Rattle.std.proofs.Common.{◌≡◌, map, take}
use Rattle.rr_checkpoint.specs.Plan.Standing.{entry_of}
use Rattle.rr_checkpoint.proofs.plan.laying.snapshot_entries.Given as goal

abbrev pub invariant-loop-snapshot : goal.invariant-loop-snapshot
invariant-loop-snapshot l = l.entries.items ≡ map entry_of (take l.snapshot-index l.placed)
