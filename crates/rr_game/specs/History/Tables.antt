-- The table in memory, as what it stands for.
use Rattle.std.specs.Prelude.{◌≡◌, ℕ, ◌-◌, ◌≤◌, All, List, Option, None, IfSome, length}
use Rattle.rr_kit.specs.declared.kit.Kit.{Kit}
use Rattle.rr_code.specs.declared.command.Command.{Command}
use Rattle.rr_turns.specs.declared.request.Request.{Request}
use Rattle.rr_turns.specs.declared.request.Request.TheVariants.{Play, Back, Forget}
use Rattle.rr_turns.specs.Ends.{kept_at}
use Rattle.rr_turns.specs.Kept.{Kept, kept_of}
use Rattle.rr_game.specs.declared.game.Game.{Game}
use Rattle.rr_game.specs.declared.history.change.Change.{Change}
use Rattle.rr_game.specs.declared.history.table.Table.{Table}
use Rattle.rr_game.specs.Keeping.{IsGameOf}
use Rattle.rr_game.specs.History.Playing.{ArePlayed}
use Rattle.rr_game.specs.History.Snapshots.{AreNamed, IsShown, PlaysOn, least_named, snapshot_due}
use Rattle.rr_game.specs.History.Changing.{game_after}
use Rattle.rr_game.specs.History.Spelling.{HasRoom}
use Rattle.rr_game.specs.Turning.{ends_turn}

-- what it keeps
abbrev pub kept_in : Table → Kept Command
kept_in table = record { commands = table.kept.commands; floor = table.floor; stamp = table.stamp }

-- how many turns have ended in it: each has its end, and so has turn 0
abbrev pub turns_in : Table → ℕ
turns_in table = length table.game.ends - 1

-- the commands that it keeps are lawful, its game is their play, and each of its snapshots is that of the first of them
pub record IsPlayed (kit : Kit) (table : Table) : Type 0 where
  pub lawful : ∥ ArePlayed kit table.kept.commands ∥₁
  pub played : IsGameOf kit table.kept.commands table.game
  pub snapshots : All (IsShown kit table.kept.commands) table.kept.snapshots

-- it has just the snapshots that the rule names
abbrev pub HasItsSnapshots : Table → Type 0
HasItsSnapshots table = AreNamed table.kept.snapshots table.game.ends table.floor (length table.kept.commands)

-- the request names a turn that has ended and isn't forgotten, if it names one
abbrev pub NamesAnEndedTurn : Table → Request Command → Type 0
NamesAnEndedTurn table (Play command) = Unit {0}
NamesAnEndedTurn table (Back k) = (table.floor ≤ k) × (k ≤ turns_in table)
NamesAnEndedTurn table (Forget k) = (table.floor ≤ k) × (k ≤ turns_in table)

-- how many of the kept commands stay behind a request; from how many commands on snapshots stay; and the one that is added
abbrev pub stays_by : Table → Request Command → ℕ
stays_by table (Play command) = length table.kept.commands
stays_by table (Back k) = kept_at table.game.ends k
stays_by table (Forget k) = length table.kept.commands

abbrev pub least_by : Table → Request Command → ℕ
least_by table (Play command) = 0
least_by table (Back k) = 0
least_by table (Forget k) = least_named (kept_at table.game.ends k)

abbrev pub snapshot_by : Request Command → Game → Option Game
snapshot_by (Play command) after = snapshot_due after
snapshot_by (Back k) after = None
snapshot_by (Forget k) after = None

-- so many commands are played to work out what a request makes of the table: the command itself; those that lead from
-- the nearest snapshot, or from the opening, to the commands that stay; or none
abbrev pub CountsPlays : Table → Request Command → ℕ → Type 0
CountsPlays table (Play command) plays = plays ≡ 1
CountsPlays table (Back k) plays = PlaysOn table.kept.snapshots (kept_at table.game.ends k) plays
CountsPlays table (Forget k) plays = plays ≡ 0

-- the change drops and adds the snapshots that this request does, whatever was played
pub record ShowsBy (table : Table) (request : Request Command) (change : Change) : Type 0 where
  pub turn : NamesAnEndedTurn table request
  pub stay : change.stay ≡ stays_by table request
  pub least : change.least ≡ least_by table request
  pub snapshot : change.snapshot ≡ snapshot_by request (game_after table.game change)

-- the table that accepted these requests: it keeps what they leave, and its game is the play of that
pub record IsTableOf (kit : Kit) (accepted : List (Request Command)) (table : Table) : Type 0 where
  pub kept : kept_in table ≡ kept_of (ends_turn kit) accepted
  pub played : IsPlayed kit table

-- there is room for the words of the command that the change adds, if it adds one
abbrev pub HasRoomFor : Table → Change → Type 0
HasRoomFor table change = IfSome change.added (HasRoom table.kept)
