-- Which world a directory and its chains spell, and what is written of a world.
use Rattle.std.specs.Prelude.{◌≡◌, ℕ, Option, List, [], ◌∷◌, ◌++◌, length, map}
use Rattle.rr_reading.specs.declared.dir.directory.ChainRef.{ChainRef}
use Rattle.rr_reading.specs.declared.dir.directory.SnapshotEntry.{SnapshotEntry}
use Rattle.rr_reading.specs.declared.dir.directory.TableEntry.{TableEntry}
use Rattle.rr_reading.specs.declared.dir.version.Version.{Version}
use Rattle.rr_reading.specs.Dir.Directory.{Directory, spelling}
use Rattle.rr_reading.specs.Dir.Directory as dir
use Rattle.rr_reading.specs.Dir.Heads.{Heads}
use Rattle.rr_reading.specs.Dir.Kept.{SpellsKept}
use Rattle.rr_reading.specs.Dir.Version.{version_number}
use Rattle.rr_images.specs.Codec.{Codec}
use Rattle.rr_images.specs.Holding.{HeldChain, texts_of}
use Rattle.rr_images.specs.Plans.{LaidChain, Draft, Fresh, Kept, chains_of, laid_as}
use Rattle.rr_pages.specs.Laying.{head_of}
use Rattle.rr_reading.specs.Held.{TextChains}
use Rattle.rr_reading.specs.Worlds.World.{IsShown, Snapshot, Table, World, WorldRules, text_for}

-- an entry of the directory, and the text of its chain, are this table
pub record SpellsTable (entry : TableEntry) (text : List ℕ) (table : Table) : Type 0 where
  pub named : entry.name ≡ table.name
  pub stamped : entry.stamp ≡ table.kept.stamp
  pub floored : entry.floor ≡ table.kept.floor
  pub counted : entry.kept ≡ length table.kept.commands
  pub spelled : SpellsKept text table.kept.commands

abbrev pub SpellsTables : List TableEntry → List (List ℕ) → List Table → Type 0
SpellsTables [] texts tables = (texts ≡ []) × (tables ≡ [])
SpellsTables (entry ∷ entries) texts tables =
    (text : List ℕ) × (table : Table) × (more : List (List ℕ)) × (others : List Table)
    × (texts ≡ text ∷ more) × (tables ≡ table ∷ others) × SpellsTable entry text table × SpellsTables entries more others

-- each text of a snapshot's chain shows the game that its table's commands make
abbrev pub ShowGames : WorldRules → World → List SnapshotEntry → List (List ℕ) → Type 0
ShowGames rules world [] texts = texts ≡ []
ShowGames rules world (entry ∷ entries) texts =
    (text : List ℕ) × (more : List (List ℕ)) × (texts ≡ text ∷ more)
    × IsShown rules world entry.table entry.kept text × ShowGames rules world entries more

-- A directory of this version, and the texts of the chains that it names, are this world; it says of the bank what it may;
-- and each of its snapshots is the game that the commands play.
pub record Spells (rules : WorldRules) (number : ℕ) (bytes : List ℕ) (texts : List (List ℕ)) (world : World) : Type 0 where
  pub version : Version
  pub numbered : version_number version ≡ number
  pub directory : Directory
  pub spelled : dir.Spells version bytes directory
  pub banked : rules.banks world.roster directory.bank
  pub of_tables : List (List ℕ)
  pub of_snapshots : List (List ℕ)
  pub of_chains : texts ≡ world.chart ∷ world.roster ∷ world.tiles ∷ world.board ∷ (of_tables ++ of_snapshots)
  pub tables : SpellsTables directory.tables of_tables world.tables
  pub snapshots : ShowGames rules world directory.snapshots of_snapshots

-- files of worlds by these rules
abbrev pub worlds : WorldRules → Codec
worlds rules = record { World = World; Takes = rules.takes; Heads = Heads; Spells = Spells rules }

-- where a chain stands
abbrev pub ref_of : HeldChain → ChainRef
ref_of chain = record { head = head_of chain.pages; length = length chain.text }

abbrev pub entry_for : HeldChain → Table → TableEntry
entry_for chain table =
    record {
      name = table.name;
      stamp = table.kept.stamp;
      floor = table.kept.floor;
      kept = length table.kept.commands;
      chain = ref_of chain;
    }

abbrev pub entries_for : List HeldChain → List Table → List TableEntry
entries_for [] tables = []
entries_for (chain ∷ chains) [] = []
entries_for (chain ∷ chains) (table ∷ tables) = entry_for chain table ∷ entries_for chains tables

abbrev pub snapshot_entry : HeldChain → Snapshot → SnapshotEntry
snapshot_entry chain snapshot = record { table = snapshot.table; kept = snapshot.kept; chain = ref_of chain }

abbrev pub snapshot_entries : List HeldChain → List Snapshot → List SnapshotEntry
snapshot_entries [] snapshots = []
snapshot_entries (chain ∷ chains) [] = []
snapshot_entries (chain ∷ chains) (snapshot ∷ snapshots) = snapshot_entry chain snapshot ∷ snapshot_entries chains snapshots

-- the chains of a world's tables, and those of snapshots, as they stand in a file
pub record TableChains : Type 0 where
  pub tables : List HeldChain
  pub snapshots : List HeldChain

abbrev pub all_of : TableChains → List HeldChain
all_of chains = chains.tables ++ chains.snapshots

-- the directory of a world and of snapshots whose chains stand there, with this bank, if it says one
abbrev pub directory_for : Option ℕ → TextChains → TableChains → World → List Snapshot → Directory
directory_for bank texts chains world snapshots =
    record {
      bank = bank;
      kit = record { chart = ref_of texts.chart; roster = ref_of texts.roster; tiles = ref_of texts.tiles; board = ref_of texts.board };
      tables = entries_for chains.tables world.tables;
      snapshots = snapshot_entries chains.snapshots snapshots;
    }

-- these chains hold the texts of a world, and the bytes of snapshots
pub record HoldTexts (texts : TextChains) (chains : TableChains) (world : World) (snapshots : List Snapshot) : Type 0 where
  pub of_chart : texts.chart.text ≡ world.chart
  pub of_roster : texts.roster.text ≡ world.roster
  pub of_tiles : texts.tiles.text ≡ world.tiles
  pub of_board : texts.board.text ≡ world.board
  pub of_tables : texts_of chains.tables ≡ map text_for world.tables
  pub of_snapshots : texts_of chains.snapshots ≡ map (λ (snapshot : Snapshot). snapshot.bytes) snapshots

-- the bytes of that directory in the form of a version
abbrev pub bytes_for : Version → Option ℕ → TextChains → TableChains → World → List Snapshot → List ℕ
bytes_for version bank texts chains world snapshots = spelling version (directory_for bank texts chains world snapshots)

-- The chains of a checkpoint: those of the texts stay where they stand, each table's is written, and of the snapshots
-- some stay and some are written.
abbrev pub drafts_for : TextChains → List LaidChain → List Draft → List Draft
drafts_for texts laid snapshots =
    Kept texts.chart ∷ Kept texts.roster ∷ Kept texts.tiles ∷ Kept texts.board
    ∷ (map (λ (chain : LaidChain). Fresh chain) laid ++ snapshots)

-- the chains of tables and snapshots among them
abbrev pub table_chains : List LaidChain → List Draft → TableChains
table_chains laid snapshots = record { tables = map laid_as laid; snapshots = chains_of snapshots }
