use Rattle.std.proofs.Common.{◌∙◌, List, All, ◌≢◌, sym, subst, arith}
use Rattle.rr_checkpoint.specs.Plan.Transcript.{table_of}
use Rattle.rr_reading.specs.Worlds.World.{Table}
use Rattle.rr_tables.specs.Tables.{kept_in_box, world_of}
use Rattle.rr_tables.proofs.WordLemmas.{all_tables, few_before, next_table, own_name}
use Rattle.rr_tables.proofs.WorldLemmas.{counted_by}
use Rattle.rr_tables.proofs.tables.Tables.write_tables.Goals as goal

pub push-requires-clause-room : goal.push-requires-clause-room
push-requires-clause-room c = few_before (world_of c.args.self.now) c.loop-place.place _ c.loop-place.invariant.0 (omega (arith, c.args.self.now.few))

pub push-requires-clause-own_name : goal.push-requires-clause-own_name
push-requires-clause-own_name c =
    let table = table_of c.in_ok-table.table in
    subst (λ (tables : List Table). All (λ (other : Table). other.name ≢ table.name) tables) (sym c.loop-place.invariant.0)
    (own_name kept_in_box c.args.self.now.map.entries c.loop-place.place table c.len-place-end.ensures.unique c.in_ok-table.ensures.table)

pub loop-place-preserved : goal.loop-place-preserved
loop-place-preserved c = (
  next_table (world_of c.args.self.now) c.loop-place.place _ _ (table_of c.in_ok-table.table) c.in_ok-table.ensures.table c.loop-place.invariant.0 c.in_ok-push.ensures.ok,
  c.in_ok-push.ensures.snapshots ∙ c.loop-place.invariant.1,
)

pub returns-clause-tables : goal.returns-clause-tables
returns-clause-tables c =
    c.loop-place.invariant.0 ∙ all_tables (world_of c.args.self.now) c.loop-place.place (omega (arith, counted_by kept_in_box c.args.self.now.map.entries))

pub returns-clause-snapshots : goal.returns-clause-snapshots
returns-clause-snapshots c = c.loop-place.invariant.1
