-- What tables lend to a checkpoint: that it is of their world, and which of their snapshots it has.
use Rattle.std.specs.Prelude.{◌≡◌, ℕ, ◌≤◌, All, List, Some, length, slice_get}
use Rattle.rr_game.specs.declared.game.Game.{Game}
use Rattle.rr_game.specs.declared.history.table.Table.{Table}
use Rattle.rr_game.specs.History.GameBytes.{bytes_of}
use Rattle.rr_game.specs.History.Tables.{HasItsSnapshots}
use Rattle.rr_kit.specs.Kits.{KitTexts, SpellsKit}
use Rattle.rr_log.specs.Lent.{AreLentOf}
use Rattle.rr_reading.specs.declared.dir.directory.TheConstants.{MOST_SNAPSHOT_BYTES}
use Rattle.rr_reading.specs.Worlds.World as words
use Rattle.rr_turns.specs.declared.limits.TheConstants.{MOST_COMMANDS}
use Rattle.rr_tables.specs.declared.tables.Tables.{Tables}
use Rattle.rr_tables.specs.Records.Taking.{table_rules}
use Rattle.rr_tables.specs.Records.Words.{KeepCommands, in_words}
use Rattle.rr_tables.specs.Tables.{ArePlayed, lent_by, lent_games, world_of}

-- the one of these tables in words that is at the place keeps so many commands
pub record KeepsAt (tables : List words.Table) (place kept : ℕ) : Type 0 where
  pub table : words.Table
  pub there : slice_get tables place ≡ Some table
  pub counted : length table.kept.commands ≡ kept

-- tables that were played with a kit lend the world in words that they are, and snapshots that show its games
abbrev pub PlayedTablesAreLent : Type 0
PlayedTablesAreLent =
    (texts : KitTexts) (tables : Tables) → SpellsKit texts tables.kit → KeepCommands (world_of tables) → ArePlayed tables
    → AreLentOf table_rules (in_words texts (world_of tables)) (lent_by tables)

-- a table that has its snapshots lends all of them, if none has more bytes than it may
abbrev pub TablesLendTheirSnapshots : Type 0
TablesLendTheirSnapshots =
    (table : Table) → HasItsSnapshots table → length table.kept.commands ≤ MOST_COMMANDS
    → All (λ (game : Game). length (bytes_of game) ≤ MOST_SNAPSHOT_BYTES) table.kept.snapshots
    → lent_games table ≡ table.kept.snapshots
