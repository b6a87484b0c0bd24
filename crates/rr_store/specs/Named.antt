-- Roots that name just the snapshots that their tables are to have, so that few commands are played to open their files.
use Rattle.std.specs.Prelude.{◌≡◌, ℕ, ◌+◌, ◌-◌, ◌*◌, ◌≤◌, All, List, [], ◌∷◌, ◌++◌, length}
use Rattle.std.specs.Global.{Box}
use Rattle.std.specs.Map.{values_of}
use Rattle.rr_disk.specs.Disk.{DiskState}
use Rattle.rr_disk.specs.Moments.{EachImage}
use Rattle.rr_game.specs.declared.game.Game.{Game}
use Rattle.rr_game.specs.declared.history.snapshots.TheConstants.{SNAPSHOT_SPACING}
use Rattle.rr_game.specs.declared.history.table.Table.{Table}
use Rattle.rr_game.specs.History.GameBytes.{bytes_of}
use Rattle.rr_kit.specs.declared.kit.Kit.{Kit}
use Rattle.rr_kit.specs.Kits.{KitTexts}
use Rattle.rr_log.specs.Calls.{TakesRootOf}
use Rattle.rr_reading.specs.declared.dir.directory.TheConstants.{MOST_SNAPSHOT_BYTES}
use Rattle.rr_reading.specs.Held.{Held}
use Rattle.rr_reading.specs.Reading.{Holds}
use Rattle.rr_reading.specs.Worlds.World as words
use Rattle.rr_tables.specs.declared.tables.Tables.{Tables}
use Rattle.rr_tables.specs.Tables.{ArePlayed}
use Rattle.rr_tables.specs.Records.Taking.{table_files}
use Rattle.rr_tables.specs.Records.Words.{in_words}
use Rattle.rr_store.specs.declared.store.Store.{Store}
use Rattle.rr_store.specs.Files.{IsNewStore, StandsFor}
use Rattle.rr_store.specs.Holding.{Carries, GamesHaveSnapshots, HasNoneBegun, disk_of, file_of, held_of, root_of, ticks_left}
use Rattle.rr_store.specs.NamedRoots as open_file
use Rattle.rr_store.specs.Recovery.Telling.{IsBase}
use Rattle.rr_store.specs.Replayed.{AreTheirCounts, PlaysRecords, ReplaysFile, counts_at}
use Rattle.rr_store.specs.World.{World}

-- whatever an opening reads of this file, its root has of each table just the snapshots that it is to have
abbrev pub NamesSnapshots : Kit → List ℕ → Type 0
NamesSnapshots kit file =
    (has : Held) (base : World) (world : words.World) → Holds file has → IsBase has base world
    → AreTheirCounts kit (counts_at has.directory.snapshots) 0 base

-- no snapshot that these tables keep has more bytes than a file takes
abbrev pub HaveShortSnapshots : Tables → Type 0
HaveShortSnapshots tables =
    All (λ (table : Box Table). All (λ (game : Game). length (bytes_of game) ≤ MOST_SNAPSHOT_BYTES) table.value.kept.snapshots)
    (values_of tables.map.entries)

abbrev pub HasShortSnapshots : {D : Type 0} → Store D → Type 0
HasShortSnapshots store = HaveShortSnapshots store.tables

-- nor does any that tables keep which are played by the rules of this kit
abbrev pub SnapshotsAreShort : Kit → Type 0
SnapshotsAreShort kit = (tables : Tables) → tables.kit ≡ kit → ArePlayed tables → HaveShortSnapshots tables

-- each table that it holds has just the snapshots that it is to have, none of which is too long for a file
pub record LendsNamed {D : Type 0} (store : Store D) : Type 0 where
  pub snapshots : GamesHaveSnapshots store
  pub short : HasShortSnapshots store

-- The store's file carries what it holds; while a checkpoint is under way, the root that is coming will have of each table just
-- the snapshots that it is to have, and so will that of a checkpoint that the opening found begun.
abbrev pub NamesComing : {D : Type 0} → (D → DiskState) → Store D → KitTexts → Type 0
NamesComing state store texts =
    open_file.NamesComing (held_of store).kit (file_of store) (state (disk_of store)) (in_words texts (held_of store).tables)

-- and the root that is taken has just those
abbrev pub NamesRoots : {D : Type 0} → (D → DiskState) → Store D → KitTexts → Type 0
NamesRoots state store texts =
    open_file.NamesRoots (held_of store).kit (file_of store) (state (disk_of store)) (in_words texts (held_of store).tables)

-- A call leaves what is coming so, and what is taken. Where another root is taken behind it, it has just those if the coming
-- one was to, whatever the one before it had.
pub record KeepsNames {D : Type 0} (state : D → DiskState) (old new : Store D) (texts : KitTexts) : Type 0 where
  pub coming : NamesComing state old texts → NamesComing state new texts
  pub roots : NamesRoots state old texts → NamesRoots state new texts
  pub takes : (root_of new ≡ root_of old → ⊥) → NamesComing state old texts → NamesRoots state new texts

-- so many commands are played to open this file: for the tables in its root fewer in all than the spacing of snapshots for
-- each of them, beside those of its records
pub record PlaysFew (file : List ℕ) (kit : Kit) (count : ℕ) : Type 0 where
  pub has : Held
  pub holds : Holds file has
  pub base : World
  pub world : words.World
  pub is_base : IsBase has base world
  pub now : World
  pub of_records : ℕ
  pub records : PlaysRecords kit base (has.near ++ has.far) now of_records
  pub few : count ≤ (SNAPSHOT_SPACING - 1) * length base + of_records

-- so it is of each file whose root has of each table just the snapshots that it is to have
abbrev pub OpeningsPlayFew : Type 0
OpeningsPlayFew =
    (file : List ℕ) (kit : Kit) (count : ℕ) → NamesSnapshots kit file → ReplaysFile file kit count → PlaysFew file kit count

-- And where the file stands for tables, and no record stands behind that root, which spells these tables themselves,
-- that is all.
abbrev pub CheckpointsPlayFew : Type 0
CheckpointsPlayFew =
    (file : List ℕ) (texts : KitTexts) (tables : World) (kit : Kit) (number count : ℕ) → StandsFor file texts tables
    → TakesRootOf table_files number (in_words texts tables) file → NamesSnapshots kit file → ReplaysFile file kit count
    → count ≤ (SNAPSHOT_SPACING - 1) * length tables

-- Where no checkpoint is under way, and none was found begun, nothing is asked of a coming root.
abbrev pub NoneIsComingAtRest : {D : Type 0} → (D → DiskState) → Type 0
NoneIsComingAtRest {D} state =
    (texts : KitTexts) (store : Store D) → ticks_left store ≡ 0 → HasNoneBegun store → Carries state store texts → NamesComing state store texts

-- Where no snapshot of the kit is too long for a file, a store that has its snapshots lends just those.
abbrev pub ShortSnapshotsAreLent : {D : Type 0} → (D → DiskState) → Type 0
ShortSnapshotsAreLent {D} state =
    (texts : KitTexts) (store : Store D) → SnapshotsAreShort (held_of store).kit → Carries state store texts → GamesHaveSnapshots store → LendsNamed store

-- stores of one file, each left by a call on the one before it that keeps what the roots name
abbrev pub KeepNames : {D : Type 0} → (D → DiskState) → KitTexts → Store D → List (Store D) → Type 0
KeepNames state texts first [] = Unit {0}
KeepNames state texts first (next ∷ later) = KeepsNames state first next texts × KeepNames state texts next later

-- the last of them
abbrev pub store_behind : {D : Type 0} → Store D → List (Store D) → Store D
store_behind first [] = first
store_behind first (next ∷ later) = store_behind next later

-- Whatever calls are made, one after another, what each of them keeps they keep together; and where another root is taken
-- behind them, it has just the snapshots that its tables are to have.
abbrev pub CallsKeepNames : {D : Type 0} → (D → DiskState) → Type 0
CallsKeepNames {D} state =
    (texts : KitTexts) (first : Store D) (later : List (Store D)) → KeepNames state texts first later
    → KeepsNames state first (store_behind first later) texts

-- Of a store whose roots are so each file that a stop may leave has such a root, and few commands are played to open it.
abbrev pub NamedRootsPlayFew : {D : Type 0} → (D → DiskState) → Type 0
NamedRootsPlayFew {D} state =
    (texts : KitTexts) (store : Store D) → NamesRoots state store texts
    → EachImage (state (disk_of store)) (λ image. NamesSnapshots (held_of store).kit image
    × ((count : ℕ) → ReplaysFile image (held_of store).kit count → PlaysFew image (held_of store).kit count))

-- The root of a new file is so: there is no table in it.
abbrev pub NewFilesNameSnapshots : Type 0
NewFilesNameSnapshots = (file : List ℕ) (texts : KitTexts) (kit : Kit) → IsNewStore texts file → NamesSnapshots kit file
