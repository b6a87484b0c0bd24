use Rattle.std.proofs.Common.{◌≡◌, map, take}
use Rattle.rr_checkpoint.specs.Plan.Transcript.{snapshots_of, tables_of}
use Rattle.rr_tables.specs.Records.Words.{table_in_words}
use Rattle.rr_tables.specs.Tables.{lent_snapshots, world_of}
use Rattle.rr_tables.proofs.LendingLemmas.{in_box}
use Rattle.rr_tables.proofs.tables.Tables.lend_snapshots.Given as goal

abbrev pub invariant-loop-place : goal.invariant-loop-place
invariant-loop-place l =
    (tables_of l.transcript ≡ map table_in_words (world_of l.self))
    × (snapshots_of l.transcript ≡ lent_snapshots 0 (take l.place (map in_box l.self.map.entries)))
