use Rattle.std.proofs.Common.{◌∙◌, List, map, refl, ap, arith, rules}
use Rattle.std.specs.Rc.{rc_slice_items}
use Rattle.rr_checkpoint.specs.Plan.Transcript.{snapshots_of, tables_of}
use Rattle.rr_reading.specs.Worlds.World.{Table}
use Rattle.rr_checkpoint_tests.proofs.TwoTables.{behind_two, count_of, of_two}
use Rattle.rr_checkpoint_tests.proofs.plans.with_snapshots.Goals as goal

pub push_snapshot-requires-clause-of_table : goal.push_snapshot-requires-clause-of_table
push_snapshot-requires-clause-of_table c =
    of_two (tables_of c.in_ok-transcript.transcript) 0 1 (rc_slice_items c.in_ok-bytes.bytes) c.in_ok-transcript.ensures.counted (omega arith) (omega arith) (omega arith) (search rules)

pub push_snapshot-requires-2-clause-of_table : goal.push_snapshot-requires-2-clause-of_table
push_snapshot-requires-2-clause-of_table c =
    of_two (tables_of c.push_snapshot.new.self) 0 2 (rc_slice_items c.in_ok-bytes-2.bytes) (ap (λ (tables : List Table). map count_of tables) c.push_snapshot.ensures.tables ∙ c.in_ok-transcript.ensures.counted) (omega arith) (omega arith) (omega arith) (search rules)

pub push_snapshot-requires-3-clause-of_table : goal.push_snapshot-requires-3-clause-of_table
push_snapshot-requires-3-clause-of_table c =
    of_two (tables_of c.push_snapshot-2.new.self) 1 1 (rc_slice_items c.in_ok-bytes-3.bytes) (ap (λ (tables : List Table). map count_of tables) (c.push_snapshot-2.ensures.tables ∙ c.push_snapshot.ensures.tables) ∙ c.in_ok-transcript.ensures.counted) (omega arith) (omega arith) (omega arith) (search rules)

pub push_snapshot-requires-3-clause-behind : goal.push_snapshot-requires-3-clause-behind
push_snapshot-requires-3-clause-behind c =
    behind_two (snapshots_of c.in_ok-transcript.transcript) (snapshots_of c.push_snapshot.new.self) (snapshots_of c.push_snapshot-2.new.self)
    (record { table = 0; kept = 1; bytes = rc_slice_items c.in_ok-bytes.bytes }) (record { table = 0; kept = 2; bytes = rc_slice_items c.in_ok-bytes-2.bytes }) (record { table = 1; kept = 1; bytes = rc_slice_items c.in_ok-bytes-3.bytes })
    c.in_ok-push_snapshot-2.ensures.ok c.in_ok-push_snapshot.ensures.ok c.in_ok-transcript.ensures.none refl refl refl
