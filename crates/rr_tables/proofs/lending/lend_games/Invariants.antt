use Rattle.std.proofs.Common.{◌≡◌, drop}
use Rattle.rr_checkpoint.specs.Plan.Transcript.{snapshots_of, tables_of}
use Rattle.rr_tables.proofs.LendingLemmas.{IsLending}
use Rattle.rr_tables.proofs.lending.lend_games.Given as goal

abbrev pub invariant-loop-snapshot : goal.invariant-loop-snapshot
invariant-loop-snapshot l = record {
  same : tables_of l.transcript ≡ tables_of l.initial.transcript;
  lending : IsLending l.place l.kept l.snapshots (drop l.snapshot-index l.snapshots) (snapshots_of l.initial.transcript) (snapshots_of l.transcript) l.count l.last;
}
