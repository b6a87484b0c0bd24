-- What a directory says, and its bytes. Numbers are big-endian.
use Rattle.std.specs.Prelude.{◌≡◌, ◌≢◌, ◌⊎◌, ℕ, ◌^◌, ◌<◌, ◌≤◌, Option, None, List, [], ◌∷◌, ◌++◌, length, slice_get, Some, All, AllPairs}
use Rattle.std.specs.List.{flat_map}
use Rattle.rr_turns.specs.declared.limits.TheConstants.{LAST_STAMP}
use Rattle.rr_reading.specs.declared.dir.directory.TheConstants.{MOST_KEPT, MOST_SNAPSHOTS, MOST_SNAPSHOT_BYTES, MOST_TABLES, MOST_TEXT}
use Rattle.rr_words.specs.Name.{IsTableName}
use Rattle.rr_reading.specs.declared.dir.directory.ChainRef.{ChainRef}
use Rattle.rr_reading.specs.declared.dir.directory.KitChains.{KitChains}
use Rattle.rr_reading.specs.declared.dir.directory.SnapshotEntry.{SnapshotEntry}
use Rattle.rr_reading.specs.declared.dir.directory.TableEntry.{TableEntry}
use Rattle.rr_reading.specs.declared.dir.directory.Dir.{Dir}
use Rattle.rr_reading.specs.declared.dir.version.Version.{Version}
use Rattle.rr_reading.specs.declared.dir.version.Version.TheVariants.{One, Two}
use Rattle.rr_words.specs.Spelling.Number.{spelled_number}

-- what the bank begins with, if it says that; where the kit stands; the tables in order of opening; and the snapshots of
-- their games, by table and rising
pub record Directory : Type 0 where
  pub bank : Option ℕ
  pub kit : KitChains
  pub tables : List TableEntry
  pub snapshots : List SnapshotEntry

abbrev pub directory_of : Dir → Directory
directory_of dir = record { bank = dir.bank; kit = dir.kit; tables = dir.tables.items; snapshots = dir.snapshots.items }

-- a chain's head and length
abbrev pub spelled_chain : ChainRef → List ℕ
spelled_chain chain = spelled_number 8 chain.head ++ spelled_number 4 chain.length

-- the chains of the kit
abbrev pub spelled_kit : KitChains → List ℕ
spelled_kit kit =
    spelled_chain kit.chart ++ (spelled_chain kit.roster ++ (spelled_chain kit.tiles ++ spelled_chain kit.board))

-- a table: the length of its name, the name, and what the table is
abbrev pub spelled_name : List ℕ → List ℕ
spelled_name name = length name ∷ name

abbrev pub spelled_state : TableEntry → List ℕ
spelled_state table =
    spelled_number 8 table.stamp ++ (spelled_number 4 table.floor ++ (spelled_number 4 table.kept ++ spelled_chain table.chain))

abbrev pub spelled_table : TableEntry → List ℕ
spelled_table table = spelled_name table.name ++ spelled_state table

-- how many tables there are, and each of them
abbrev pub spelled_tables : List TableEntry → List ℕ
spelled_tables tables = spelled_number 2 (length tables) ++ flat_map spelled_table tables

-- a snapshot: the place of its table, how many of its kept commands were played, and its chain
abbrev pub spelled_snapshot : SnapshotEntry → List ℕ
spelled_snapshot snapshot =
    spelled_number 2 snapshot.table ++ (spelled_number 4 snapshot.kept ++ spelled_chain snapshot.chain)

-- how many snapshots there are, and each of them. That there is none is told by the end alone
abbrev pub spelled_snapshots : List SnapshotEntry → List ℕ
spelled_snapshots [] = []
spelled_snapshots (first ∷ others) =
    spelled_number 2 (length (first ∷ others)) ++ flat_map spelled_snapshot (first ∷ others)

-- the bank, if it is said
abbrev pub spelled_bank : Option ℕ → List ℕ
spelled_bank None = []
spelled_bank (Some bank) = spelled_number 8 bank

-- and all that comes after it
abbrev pub spelled_rest : Directory → List ℕ
spelled_rest directory =
    spelled_kit directory.kit ++ (spelled_tables directory.tables ++ spelled_snapshots directory.snapshots)

-- the bytes of a directory in the form of a version
abbrev pub spelling : Version → Directory → List ℕ
spelling One directory = spelled_rest directory
spelling Two directory = spelled_bank directory.bank ++ spelled_rest directory

-- a directory of the first version says no bank, and one of the second says it
abbrev pub FitsVersion : Version → Option ℕ → Type 0
FitsVersion One None = Unit {0}
FitsVersion One (Some bank) = ⊥
FitsVersion Two None = ⊥
FitsVersion Two (Some bank) = bank < 2 ^ 64

-- a page is a number of eight bytes, and a chain's length one of four
pub record IsChain (chain : ChainRef) : Type 0 where
  pub page : chain.head < 2 ^ 64
  pub long : chain.length < 2 ^ 32

-- a text of the kit has no more bytes than it may
pub record IsText (chain : ChainRef) : Type 0 where
  pub page : chain.head < 2 ^ 64
  pub short : chain.length ≤ MOST_TEXT

pub record IsKit (kit : KitChains) : Type 0 where
  pub is_chart : IsText kit.chart
  pub is_roster : IsText kit.roster
  pub is_tiles : IsText kit.tiles
  pub is_board : IsText kit.board

-- the same of any lengths, and of the numbers of a table
pub record HasChains (kit : KitChains) : Type 0 where
  pub is_chart : IsChain kit.chart
  pub is_roster : IsChain kit.roster
  pub is_tiles : IsChain kit.tiles
  pub is_board : IsChain kit.board

pub record FitsBytes (table : TableEntry) : Type 0 where
  pub stamped : table.stamp < 2 ^ 64
  pub floored : table.floor < 2 ^ 32
  pub counted : table.kept < 2 ^ 32
  pub is_chain : IsChain table.chain

-- a table has a table's name, keeps at least one command, and none of its numbers is past its limit
pub record IsTable (table : TableEntry) : Type 0 where
  pub named : IsTableName table.name
  pub stamped : table.stamp ≤ LAST_STAMP
  pub floored : table.floor < 2 ^ 32
  pub some_kept : 1 ≤ table.kept
  pub few_kept : table.kept ≤ MOST_KEPT
  pub is_chain : IsChain table.chain

-- no two tables have one name
abbrev pub HaveOwnNames : List TableEntry → Type 0
HaveOwnNames tables = AllPairs (λ table other. table.name ≢ other.name) tables

pub record AreTables (tables : List TableEntry) : Type 0 where
  pub each : All IsTable tables
  pub own_names : HaveOwnNames tables
  pub few : length tables ≤ MOST_TABLES

-- it is of one of the tables, which keeps at least as many commands, and has no more bytes than it may
pub record IsSnapshot (tables : List TableEntry) (snapshot : SnapshotEntry) : Type 0 where
  pub table : TableEntry
  pub of_table : slice_get tables snapshot.table ≡ Some table
  pub some_kept : 1 ≤ snapshot.kept
  pub within : snapshot.kept ≤ table.kept
  pub page : snapshot.chain.head < 2 ^ 64
  pub short : snapshot.chain.length ≤ MOST_SNAPSHOT_BYTES

-- it is of an earlier table, or of fewer commands of the same
abbrev pub ComesBefore : SnapshotEntry → SnapshotEntry → Type 0
ComesBefore snapshot other =
    (snapshot.table < other.table) ⊎ ((snapshot.table ≡ other.table) × (snapshot.kept < other.kept))

pub record AreSnapshots (tables : List TableEntry) (snapshots : List SnapshotEntry) : Type 0 where
  pub each : All (IsSnapshot tables) snapshots
  pub rising : AllPairs ComesBefore snapshots
  pub few : length snapshots ≤ MOST_SNAPSHOTS

pub record IsDirectory (directory : Directory) : Type 0 where
  pub is_kit : IsKit directory.kit
  pub are_tables : AreTables directory.tables
  pub are_snapshots : AreSnapshots directory.tables directory.snapshots

-- the bytes begin with how many tables there are, at least one and no more than a store holds, and the first of them
pub record BeginsTables (bytes : List ℕ) : Type 0 where
  pub count : ℕ
  pub some : 1 ≤ count
  pub few : count ≤ MOST_TABLES
  pub table : TableEntry
  pub is_table : IsTable table
  pub rest : List ℕ
  pub spelled : bytes ≡ spelled_number 2 count ++ (spelled_table table ++ rest)

-- a kit comes first, and tables begin after it
abbrev pub BeginsKit : List ℕ → Type 0
BeginsKit bytes =
    (kit : KitChains) × (rest : List ℕ) × IsKit kit × (bytes ≡ spelled_kit kit ++ rest) × BeginsTables rest

-- the same in the form of a version
abbrev pub BeginsDirectory : Version → List ℕ → Type 0
BeginsDirectory One bytes = BeginsKit bytes
BeginsDirectory Two bytes =
    (bank : ℕ) × (rest : List ℕ) × (bank < 2 ^ 64) × (bytes ≡ spelled_number 8 bank ++ rest) × BeginsKit rest

-- the bytes are those of this directory in the form of the version
pub record Spells (version : Version) (bytes : List ℕ) (directory : Directory) : Type 0 where
  pub is_directory : IsDirectory directory
  pub banked : FitsVersion version directory.bank
  pub spelled : bytes ≡ spelling version directory
