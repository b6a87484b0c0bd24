-- What the definitions of files and worlds say.
use Rattle.std.specs.Prelude.{◌≡◌, ℕ, ◌+◌, ◌-◌, ◌<◌, ◌≤◌, All, List, [], length}
use Rattle.std.specs.Global.{Box}
use Rattle.std.specs.Map.{values_of}
use Rattle.rr_disk.specs.Disk.{DiskState}
use Rattle.rr_disk.specs.Moments.{EachImage}
use Rattle.rr_game.specs.declared.game.Game.{Game}
use Rattle.rr_game.specs.declared.history.snapshots.TheConstants.{SNAPSHOT_SPACING}
use Rattle.rr_game.specs.declared.history.table.Table.{Table}
use Rattle.rr_game.specs.History.GameBytes.{bytes_of}
use Rattle.rr_images.specs.Holding.{HeldChain}
use Rattle.rr_images.specs.Layout.{Stands}
use Rattle.rr_kit.specs.declared.kit.Kit.{Kit}
use Rattle.rr_kit.specs.Kits.{KitTexts}
use Rattle.rr_reading.specs.declared.dir.directory.TheConstants.{MOST_SNAPSHOT_BYTES}
use Rattle.rr_reading.specs.Worlds.Spelling.{snapshot_entries}
use Rattle.rr_reading.specs.Worlds.World as words
use Rattle.rr_tables.specs.Records.Taking.{table_files}
use Rattle.rr_tables.specs.Records.Words.{in_words}
use Rattle.rr_tables.specs.Records.World.{TableState}
use Rattle.rr_tables.specs.Tables.{ArePlayed, HaveTheirSnapshots, lent_by, world_of}
use Rattle.rr_tables.specs.declared.tables.Tables.{Tables}
use Rattle.rr_store.specs.declared.store.Store.{Store}
use Rattle.rr_store.specs.Files.{StandsFor}
use Rattle.rr_store.specs.Holding.{Carries, disk_of, held_of, last_of, root_of}
use Rattle.rr_store.specs.Replayed.{AreItsCounts, AreTheirCounts, PlaysTable, counts_at}
use Rattle.rr_store.specs.World.{World}

-- a file stands for one kit and one world
abbrev pub OneWorld : Type 0
OneWorld = (file : List ℕ) (texts others : KitTexts) (a b : World) → StandsFor file texts a → StandsFor file others b
    → (others ≡ texts) × (b ≡ a)

-- The file stands for the world, and its numbers are those of the store: that of the root that is taken, and that of the last
-- record, by the root's first record and the records that stand behind it.
pub record HasNumbersOf {D : Type 0} (store : Store D) (world : words.World) (file : List ℕ) : Type 0 where
  pub stands : Stands table_files file world
  pub root : root_of store ≡ stands.root.number
  pub last : last_of store + 1 ≡ stands.root.first + length stands.near + length stands.far

-- so it is of each file that a stop may leave of a disk that carries what the store holds
abbrev pub NumbersAreInTheFile : {D : Type 0} → (D → DiskState) → Type 0
NumbersAreInTheFile {D} state =
    (texts : KitTexts) (store : Store D) → Carries state store texts
    → EachImage (state (disk_of store)) (HasNumbersOf store (in_words texts (held_of store).tables))

-- Of a table whose snapshots in a root are just those that it is to have, fewer commands are played than the spacing of
-- snapshots.
abbrev pub FewAreLeft : Type 0
FewAreLeft =
    (kit : Kit) (table : TableState) (counts : List ℕ) (plays : ℕ) → AreItsCounts kit table counts
    → PlaysTable kit table counts plays → plays < SNAPSHOT_SPACING

-- Of a table of which a root has no snapshot each command is played once, but for its opening.
abbrev pub BareTablesArePlayedOnce : Type 0
BareTablesArePlayedOnce =
    (kit : Kit) (table : TableState) (plays : ℕ) → PlaysTable kit table [] plays → plays ≡ length table.commands - 1

-- Just those are in a directory that a checkpoint writes of tables that were played and have their snapshots, if none of these has
-- more bytes than it may.
abbrev pub LentRootsAreNamed : Type 0
LentRootsAreNamed =
    (tables : Tables) (chains : List HeldChain) → ArePlayed tables → HaveTheirSnapshots tables
    → All (λ (table : Box Table). All (λ (game : Game). length (bytes_of game) ≤ MOST_SNAPSHOT_BYTES) table.value.kept.snapshots) (values_of tables.map.entries)
    → length chains ≡ length (lent_by tables).snapshots
    → AreTheirCounts tables.kit (counts_at (snapshot_entries chains (lent_by tables).snapshots)) 0 (world_of tables)
