-- The snapshots of a file, and whether they show the games that its commands play.
use Rattle.std.specs.Prelude.{◌≡◌, ℕ, ◌+◌, ◌==◌, ◌≤◌, All, List, [], ◌∷◌, ◌++◌, Option, None, Some, if◌then◌else◌, length, nat_le, take}
use Rattle.std.specs.List.{AllZip, Contains}
use Rattle.rr_code.specs.declared.command.Command.{Command}
use Rattle.rr_game.specs.declared.game.Game.{Game}
use Rattle.rr_game.specs.History.GameBytes.{SpellsGame, SpellsOneGame, bytes_of}
use Rattle.rr_game.specs.History.Playing.{IsPlayOf}
use Rattle.rr_images.specs.Holding.{HeldChain}
use Rattle.rr_kit.specs.declared.kit.Kit.{Kit}
use Rattle.rr_reading.specs.declared.dir.directory.SnapshotEntry.{SnapshotEntry}
use Rattle.rr_checkpoint.specs.Plan.Standing.{standing_chains}
use Rattle.rr_tables.specs.Records.World.{World}
use Rattle.rr_store.specs.declared.recovery.shown.Snapshots.{Snapshots}

-- a snapshot: how many of its table's commands were played, and its bytes
pub record Shown : Type 0 where
  pub kept : ℕ
  pub bytes : List ℕ

-- the snapshots of these entries and chains, and of them those of the table at this place
abbrev pub shown_in : List SnapshotEntry → List HeldChain → List Shown
shown_in [] chains = []
shown_in (entry ∷ entries) [] = []
shown_in (entry ∷ entries) (chain ∷ chains) = record { kept = entry.kept; bytes = chain.text } ∷ shown_in entries chains

abbrev pub shown_at : ℕ → List SnapshotEntry → List HeldChain → List Shown
shown_at place [] chains = []
shown_at place (entry ∷ entries) [] = []
shown_at place (entry ∷ entries) (chain ∷ chains) =
    if entry.table == place then record { kept = entry.kept; bytes = chain.text } ∷ shown_at place entries chains
    else shown_at place entries chains

-- the same of snapshots that were read
abbrev pub shown_of : ℕ → Snapshots → List Shown
shown_of place snapshots = shown_at place snapshots.entries.now (standing_chains snapshots.chains.now)

-- the bytes spell a game that has played as many commands as the snapshot tells
abbrev pub SpellsTheGame : Shown → Game → Type 0
SpellsTheGame shown game = SpellsGame shown.bytes shown.kept game

abbrev pub SpellsItsGame : Shown → Type 0
SpellsItsGame shown = SpellsOneGame shown.bytes shown.kept

-- that game is the play of the first so many of these commands, each lawful after those before it
pub record ShowsPlayOf (kit : Kit) (commands : List Command) (shown : Shown) : Type 0 where
  pub game : Game
  pub spelled : SpellsGame shown.bytes shown.kept game
  pub within : shown.kept ≤ length commands
  pub play : IsPlayOf kit (take shown.kept commands) game

-- a game that has bytes is the play of the first of these commands, each lawful after those before it
pub record IsPlayWithin (kit : Kit) (commands : List Command) (game : Game) : Type 0 where
  pub spelled : SpellsGame (bytes_of game) game.played game
  pub within : game.played ≤ length commands
  pub play : IsPlayOf kit (take game.played commands) game

-- the games of these snapshots come behind the others
abbrev pub KeepsShown : List Shown → List Game → List Game → Type 0
KeepsShown shown old new = (games : List Game) × AllZip SpellsTheGame shown games × (new ≡ old ++ games)

-- the one of two games that has played more commands, where there is another
abbrev pub later : Game → Option Game → Option Game
later game None = Some game
later game (Some last) = if nat_le game.played last.played then Some last else Some game

-- of these games the one that has played the most commands, or none where there is none
abbrev pub IsLast : List Game → Option Game → Type 0
IsLast games None = games ≡ []
IsLast games (Some last) = Contains games last × All (λ (game : Game). game.played ≤ last.played) games

-- each snapshot of these tables, the first of which stands at this place, shows the play of its table's commands
abbrev pub ShowPlays : Kit → List SnapshotEntry → List HeldChain → ℕ → World → Type 0
ShowPlays kit entries chains place [] = Unit {0}
ShowPlays kit entries chains place (table ∷ tables) =
    All (ShowsPlayOf kit table.1.commands) (shown_at place entries chains) × ShowPlays kit entries chains (place + 1) tables

-- these snapshots, which were read, show the plays of a world's tables
abbrev pub AreShown : Kit → Snapshots → World → Type 0
AreShown kit snapshots tables = ShowPlays kit snapshots.entries.now (standing_chains snapshots.chains.now) 0 tables
