use Rattle.std.proofs.Common.{◌≡◌, [], map, take}
use Rattle.rr_tables.specs.Records.Words.{table_in_words}
use Rattle.rr_checkpoint.specs.Plan.Transcript.{snapshots_of, tables_of}
use Rattle.rr_tables.specs.Tables.{world_of}
use Rattle.rr_tables.proofs.tables.Tables.write_tables.Given as goal

abbrev pub invariant-loop-place : goal.invariant-loop-place
invariant-loop-place l = (tables_of l.transcript ≡ map table_in_words (take l.place (world_of l.self))) × (snapshots_of l.transcript ≡ [])
