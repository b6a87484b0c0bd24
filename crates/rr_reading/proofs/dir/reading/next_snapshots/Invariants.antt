use Rattle.rr_reading.proofs.DirLemmas.SnapshotLemmas.{ReadsSnapshots}
use Rattle.rr_reading.proofs.dir.reading.next_snapshots.Given as goal

abbrev pub invariant-loop : goal.invariant-loop
invariant-loop l = ReadsSnapshots l.tables l.initial.cursor l.snapshots.items l.counter l.cursor
