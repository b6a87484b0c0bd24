use Rattle.rr_reading.specs.declared.dir.directory.SnapshotEntry.{SnapshotEntry}
use Rattle.rr_reading.proofs.ChainLemmas.{named_all, named_each}
use Rattle.rr_reading.proofs.named.add_snapshots.Goals as goal

pub returns-clause-heads : goal.returns-clause-heads
returns-clause-heads c =
    named_all (λ (x : SnapshotEntry). x.chain) c.args.chains.now.items c.args.snapshots.now c.loop-snapshot.chains.items c.loop-snapshot.snapshot-index c.loop-snapshot-test.false c.loop-snapshot.invariant

pub returns-clause-each : goal.returns-clause-each
returns-clause-each c =
    named_each (λ (x : SnapshotEntry). x.chain) c.args.chains.now.items c.args.snapshots.now c.loop-snapshot.chains.items
    (named_all (λ (x : SnapshotEntry). x.chain) c.args.chains.now.items c.args.snapshots.now c.loop-snapshot.chains.items c.loop-snapshot.snapshot-index c.loop-snapshot-test.false c.loop-snapshot.invariant)
