-- Snapshots of games that a checkpoint writes.
use Rattle.std.specs.Prelude.{◌≡◌, ℕ, ◌<◌, ◌≤◌, List, length, slice_get, slice_index, Some}
use Rattle.std.specs.Rc.{rc_slice_items}
use Rattle.rr_checkpoint.specs.declared.plan.snapshot.SnapshotTranscript.{SnapshotTranscript}
use Rattle.rr_reading.specs.declared.dir.directory.TheConstants.{MOST_SNAPSHOT_BYTES}
use Rattle.rr_reading.specs.Worlds.World.{Snapshot, Table}

-- the snapshot as a file holds it
abbrev pub snapshot_of : SnapshotTranscript → Snapshot
snapshot_of snapshot = record { table = snapshot.table; kept = snapshot.kept; bytes = rc_slice_items snapshot.bytes }

-- it is of one of the tables, which keeps at least as many commands, and has no more bytes than it may
pub record IsSnapshotOf (tables : List Table) (snapshot : Snapshot) : Type 0 where
  pub table : Table
  pub of_table : slice_get tables snapshot.table ≡ Some table
  pub some_kept : 1 ≤ snapshot.kept
  pub within : snapshot.kept ≤ length table.kept.commands
  pub short : length snapshot.bytes ≤ MOST_SNAPSHOT_BYTES

-- the same, by how many commands each table keeps; no table that isn't there keeps any
abbrev pub IsCounted : List ℕ → Snapshot → Type 0
IsCounted counts snapshot =
    (1 ≤ snapshot.kept) × (snapshot.kept ≤ slice_index counts snapshot.table) × (length snapshot.bytes ≤ MOST_SNAPSHOT_BYTES)

-- it is of no later table, and where it is of the same, of fewer commands
abbrev pub StandsBefore : Snapshot → Snapshot → Type 0
StandsBefore snapshot other =
    (snapshot.table ≤ other.table) × (snapshot.table ≡ other.table → snapshot.kept < other.kept)
