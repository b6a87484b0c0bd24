use Rattle.std.proofs.Common.{◌≡◌, ◌++◌, map, take}
use Rattle.rr_reading.specs.declared.dir.directory.SnapshotEntry.{SnapshotEntry}
use Rattle.rr_reading.specs.Dir.Heads.{head_of}
use Rattle.rr_reading.proofs.named.add_snapshots.Given as goal

abbrev pub invariant-loop-snapshot : goal.invariant-loop-snapshot
invariant-loop-snapshot l =
    map head_of l.chains.items ≡ map head_of l.initial.chains.items ++ map (λ (snapshot : SnapshotEntry). head_of snapshot.chain) (take l.snapshot-index l.snapshots)
