use Rattle.std.proofs.Common.{◌≡◌, ◌++◌, take}
use Rattle.std.specs.List.{flat_map}
use Rattle.rr_reading.specs.Dir.Directory.{spelled_snapshot}
use Rattle.rr_reading.proofs.dir.writing.write_snapshots.Given as goal

abbrev pub invariant-loop-snapshot : goal.invariant-loop-snapshot
invariant-loop-snapshot l = l.out.items ≡ l.initial.out.items ++ flat_map spelled_snapshot (take l.snapshot-index l.snapshots)
