-- Tables in memory, as the world that they are, and that each was played.
use Rattle.std.specs.Prelude.{◌≡◌, ℕ, ◌+◌, Bool, ◌&&◌, nat_le, nat_lt, List, [], ◌∷◌, ◌++◌, IfSome, bytes_eq, if◌then◌else◌, length, map, option_map}
use Rattle.std.specs.Global.{Box}
use Rattle.indexmap.specs.IndexMap.{get}
use Rattle.rr_game.specs.declared.game.Game.{Game}
use Rattle.rr_game.specs.declared.history.table.Table.{Table}
use Rattle.rr_game.specs.History.GameBytes.{bytes_of}
use Rattle.rr_game.specs.History.Tables.{HasItsSnapshots, IsPlayed, kept_in}
use Rattle.rr_log.specs.Lent.{Lent}
use Rattle.rr_reading.specs.declared.dir.directory.TheConstants.{MOST_SNAPSHOT_BYTES}
use Rattle.rr_reading.specs.Worlds.World.{Snapshot}
use Rattle.rr_tables.specs.Records.Words.{table_in_words}
use Rattle.rr_tables.specs.Records.World.{TableState, World}
use Rattle.rr_tables.specs.declared.lending.TheConstants.{MOST_LENT}
use Rattle.rr_tables.specs.declared.tables.Tables.{Tables}

-- what a table in a box keeps
abbrev pub kept_in_box : Box Table → TableState
kept_in_box table = kept_in table.value

-- the tables of a map from names, whose values are seen as tables
abbrev pub world_by : {T : Type 0} → (T → TableState) → List (List ℕ × T) → World
world_by state entries = map (λ e. (e.0, state e.1)) entries

-- the tables by their names, in the order of opening
abbrev pub world_of : Tables → World
world_of tables = world_by kept_in_box tables.map.entries

-- A file may have this snapshot of a table that keeps so many commands, behind so many of its snapshots, of which the last
-- is behind so many commands: those are fewer than there may be, it is behind more commands, and no more than the table
-- keeps, and has no more bytes than it may.
abbrev pub can_be_lent : ℕ → ℕ → ℕ → Game → Bool
can_be_lent kept count last game =
    nat_lt count MOST_LENT && nat_lt last game.played && nat_le game.played kept
    && nat_le (length (bytes_of game)) MOST_SNAPSHOT_BYTES

-- of these snapshots the ones that are lent behind so many
abbrev pub lent_among : ℕ → ℕ → ℕ → List Game → List Game
lent_among kept count last [] = []
lent_among kept count last (game ∷ games) =
    if can_be_lent kept count last game then game ∷ lent_among kept (count + 1) game.played games
    else lent_among kept count last games

-- the snapshots of a table that are lent to a checkpoint: all that a file may have
abbrev pub lent_games : Table → List Game
lent_games table = lent_among (length table.kept.commands) 0 0 table.kept.snapshots

-- a snapshot of the table at this place
abbrev pub snapshot_at : ℕ → Game → Snapshot
snapshot_at place game = record { table = place; kept = game.played; bytes = bytes_of game }

-- the snapshots of tables that are lent, of which the first stands at this place
abbrev pub lent_snapshots : ℕ → List Table → List Snapshot
lent_snapshots place [] = []
lent_snapshots place (table ∷ tables) = map (snapshot_at place) (lent_games table) ++ lent_snapshots (place + 1) tables

-- what is lent to a checkpoint: the tables in words, and their snapshots
abbrev pub lent_by : Tables → Lent
lent_by tables =
    record {
      tables = map table_in_words (world_of tables);
      snapshots = lent_snapshots 0 (map (λ e. e.1.value) tables.map.entries);
    }

-- each was played with the kit: its game is the play of the commands that it keeps
abbrev pub ArePlayed : Tables → Type 0
ArePlayed tables = (name : List ℕ) → IfSome (get bytes_eq tables.map name) (λ table. IsPlayed tables.kit table.value)

-- each has just the snapshots that the rule names
abbrev pub HaveTheirSnapshots : Tables → Type 0
HaveTheirSnapshots tables = (name : List ℕ) → IfSome (get bytes_eq tables.map name) (λ table. HasItsSnapshots table.value)

-- the tables keep what they kept, also the one of this name, and lend what they lent; they were played if they were, and
-- have their snapshots if they had them; their rooms may differ
pub record AreSame (name : List ℕ) (old new : Tables) : Type 0 where
  pub kit : new.kit ≡ old.kit
  pub world : world_of new ≡ world_of old
  pub lent : lent_by new ≡ lent_by old
  pub table : option_map kept_in_box (get bytes_eq new.map name) ≡ option_map kept_in_box (get bytes_eq old.map name)
  pub played : ArePlayed old → ArePlayed new
  pub snapshots : HaveTheirSnapshots old → HaveTheirSnapshots new
