-- What is lent to be written by a checkpoint.
use Rattle.std.specs.Prelude.{◌≡◌, ℕ, List}
use Rattle.rr_log.specs.declared.tables.TablesInWords.{Ghosts}
use Rattle.rr_checkpoint.specs.declared.plan.standing.StandingSnapshot.{StandingSnapshot}
use Rattle.rr_checkpoint.specs.declared.plan.transcript.Transcript.{Transcript}
use Rattle.rr_checkpoint.specs.Plan.Laying.{needed_pages}
use Rattle.rr_checkpoint.specs.Plan.Transcript.{snapshots_of, tables_of}
use Rattle.rr_reading.specs.Worlds.World.{AreShown, Snapshot, Table, World, WorldRules}

-- tables, and snapshots of their games
pub record Lent : Type 0 where
  pub tables : List Table
  pub snapshots : List Snapshot

abbrev pub lent_of : {T : Type 0} → Ghosts T → T → Lent
lent_of seen tables = record { tables = seen.tables tables; snapshots = seen.snapshots tables }

-- the same as a transcript has them
abbrev pub lent_in : Transcript → Lent
lent_in transcript = record { tables = tables_of transcript; snapshots = snapshots_of transcript }

-- they are those of a world: its tables, and each snapshot shows its game
pub record AreLentOf (rules : WorldRules) (world : World) (lent : Lent) : Type 0 where
  pub tables : world.tables ≡ lent.tables
  pub shown : AreShown rules world lent.snapshots

-- how many pages a checkpoint of them lays, where these snapshots stand already
abbrev pub pages_of : List StandingSnapshot → Lent → ℕ
pages_of standing lent = needed_pages standing lent.tables lent.snapshots
