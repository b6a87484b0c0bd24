-- How many commands an opening plays.
use Rattle.std.specs.Prelude.{◌≡◌, ℕ, ◌+◌, ◌-◌, ◌==◌, max, List, [], ◌∷◌, ◌++◌, if◌then◌else◌, length, map}
use Rattle.std.specs.List.{filter}
use Rattle.rr_game.specs.declared.game.Game.{Game}
use Rattle.rr_game.specs.History.Playing.{ends_turn}
use Rattle.rr_game.specs.History.Snapshots.{is_between, least_named, named_counts}
use Rattle.rr_kit.specs.declared.kit.Kit.{Kit}
use Rattle.rr_reading.specs.declared.dir.directory.SnapshotEntry.{SnapshotEntry}
use Rattle.rr_reading.specs.Held.{Held}
use Rattle.rr_reading.specs.Reading.{Holds}
use Rattle.rr_reading.specs.Worlds.World as words
use Rattle.rr_tables.specs.Records.Lines.{TakesRecord}
use Rattle.rr_tables.specs.Records.World.{TableState, World, table_named}
use Rattle.rr_tables.specs.Taking.{plays_of}
use Rattle.rr_turns.specs.Ends.{kept_at, turn_ends}
use Rattle.rr_store.specs.Recovery.Base.{Named}
use Rattle.rr_store.specs.Recovery.Shown.{Shown, shown_at}
use Rattle.rr_store.specs.Recovery.Telling.{IsBase}

-- of how many commands each a root has snapshots of the table at this place
abbrev pub counts_at : List SnapshotEntry → ℕ → List ℕ
counts_at [] place = []
counts_at (entry ∷ entries) place =
    if entry.table == place then entry.kept ∷ counts_at entries place else counts_at entries place

-- the same of snapshots that were read
abbrev pub counts_shown : List Shown → List ℕ
counts_shown shown = map (λ (one : Shown). one.kept) shown

abbrev pub counts_named : Named → ℕ → List ℕ
counts_named named place = counts_shown (shown_at place named.snapshot_entries named.snapshot_chains)

-- and of games
abbrev pub counts_played : List Game → List ℕ
counts_played games = map (λ (game : Game). game.played) games

-- the greatest of these counts, or 0
abbrev pub greatest : List ℕ → ℕ
greatest [] = 0
greatest (count ∷ counts) = max count (greatest counts)

-- Behind how many of its commands a table with snapshots of these counts is played on: behind its last snapshot, or behind the
-- opening where it has none.
abbrev pub begins_behind : List ℕ → ℕ
begins_behind [] = 1
begins_behind (count ∷ counts) = greatest (count ∷ counts)

-- how many of so many commands stand behind that
abbrev pub plays_behind : ℕ → List ℕ → ℕ
plays_behind kept counts = kept - begins_behind counts

-- these counts, and of the commands that are played on behind them each count of which a snapshot is made
abbrev pub with_due : List ℕ → ℕ → List ℕ
with_due counts kept = counts ++ named_counts (begins_behind counts + 1) kept

-- of how many commands at least a table's snapshots are that its floor leaves it
abbrev pub least_kept : Kit → TableState → ℕ
least_kept kit table = least_named (kept_at (turn_ends (ends_turn kit) table.commands) table.floor)

-- snapshots of these counts are just those that a table which keeps this is to have
abbrev pub AreItsCounts : Kit → TableState → List ℕ → Type 0
AreItsCounts kit table counts = counts ≡ named_counts (least_kept kit table) (length table.commands)

-- so it is of each of these tables, the first of which stands at this place
abbrev pub AreTheirCounts : Kit → (ℕ → List ℕ) → ℕ → World → Type 0
AreTheirCounts kit counts place [] = Unit {0}
AreTheirCounts kit counts place (table ∷ tables) =
    AreItsCounts kit table.1 (counts place) × AreTheirCounts kit counts (place + 1) tables

-- of how many commands each a table has snapshots that was played on from those of these counts: the ones that its floor
-- leaves it
abbrev pub counts_then : Kit → TableState → List ℕ → List ℕ
counts_then kit table counts =
    filter (is_between (least_kept kit table) (length table.commands)) (with_due counts (length table.commands))

-- So many commands are played of a table that keeps this and of which a root has snapshots of these counts: those behind the
-- last of them. If it then has other snapshots than it is to have, it is played once more, from its opening.
pub record PlaysTable (kit : Kit) (table : TableState) (counts : List ℕ) (plays : ℕ) : Type 0 where
  pub once : AreItsCounts kit table (counts_then kit table counts) → plays ≡ plays_behind (length table.commands) counts
  pub twice : (AreItsCounts kit table (counts_then kit table counts) → ⊥)
      → plays ≡ plays_behind (length table.commands) counts + plays_behind (length table.commands) []

-- so many of these tables, the first of which stands at this place
abbrev pub PlaysTables : Kit → (ℕ → List ℕ) → ℕ → World → ℕ → Type 0
PlaysTables kit counts place [] plays = plays ≡ 0
PlaysTables kit counts place (table ∷ tables) plays =
    (first : ℕ) × (others : ℕ) × PlaysTable kit table.1 (counts place) first × PlaysTables kit counts (place + 1) tables others
    × (plays ≡ first + others)

-- a record is taken, and so many commands are played to work out what its request makes of its table
pub record PlaysRecord (kit : Kit) (old : World) (line : List ℕ) (new : World) (plays : ℕ) : Type 0 where
  pub takes : TakesRecord kit old line new
  pub counted : plays ≡ plays_of kit (table_named old takes.name) takes.request

-- and so many for records, which are taken in turn
abbrev pub PlaysRecords : Kit → World → List (List ℕ) → World → ℕ → Type 0
PlaysRecords kit old [] new plays = (new ≡ old) × (plays ≡ 0)
PlaysRecords kit old (line ∷ lines) new plays =
    (mid : World) × (first : ℕ) × (others : ℕ) × PlaysRecord kit old line mid first × PlaysRecords kit mid lines new others
    × (plays ≡ first + others)

-- An opening plays so many commands: those of the tables that the root spells, and then those of the records.
pub record IsReplayed (has : Held) (kit : Kit) (count : ℕ) : Type 0 where
  pub base : World
  pub world : words.World
  pub is_base : IsBase has base world
  pub of_tables : ℕ
  pub tables : PlaysTables kit (counts_at has.directory.snapshots) 0 base of_tables
  pub now : World
  pub of_records : ℕ
  pub records : PlaysRecords kit base (has.near ++ has.far) now of_records
  pub both : count ≡ of_tables + of_records

-- so many commands are played to open this file
abbrev pub ReplaysFile : List ℕ → Kit → ℕ → Type 0
ReplaysFile file kit count = (has : Held) × Holds file has × IsReplayed has kit count
