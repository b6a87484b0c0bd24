-- What a request that isn't refused makes of a table.
use Rattle.std.specs.Prelude.{◌≡◌, ℕ, ◌+◌, ◌≤◌, ◌<◌, List, ◌++◌, length, take, None, IfSome, option_to_list, unwrap_or}
use Rattle.std.specs.List.{filter}
use Rattle.std.specs.Option.{option_map_or}
use Rattle.rr_turns.specs.declared.limits.TheConstants.{LAST_STAMP, MOST_COMMANDS}
use Rattle.rr_kit.specs.declared.kit.Kit.{Kit}
use Rattle.rr_code.specs.declared.command.Command.{Command}
use Rattle.rr_turns.specs.declared.request.Request.{Request}
use Rattle.rr_turns.specs.declared.request.Request.TheVariants.{Play, Back, Forget}
use Rattle.rr_turns.specs.Kept.{Kept, kept_after}
use Rattle.rr_game.specs.declared.game.Game.{Game}
use Rattle.rr_game.specs.declared.history.change.Change.{Change}
use Rattle.rr_game.specs.History.Playing.{IsPlayOf}
use Rattle.rr_game.specs.History.Snapshots.{IsShown, is_between}
use Rattle.rr_game.specs.Turning.{ends_turn}

-- what a table keeps after a change: the front that stays, and the command that is added
abbrev pub kept_with : Kept Command → Change → Kept Command
kept_with old change = record {
  commands = take change.stay old.commands ++ option_to_list change.added;
  floor = change.floor;
  stamp = old.stamp + 1;
}

-- the table's game after a change: the change's, or the one that it was where the change has none
abbrev pub game_after : Game → Change → Game
game_after game change = unwrap_or change.game game

-- the table's snapshots after a change: those of a count within its bounds, and the one that is added
abbrev pub snapshots_after : List Game → Change → List Game
snapshots_after old change =
    filter (λ (game : Game). is_between change.least change.stay game.played) old ++ option_to_list change.snapshot

-- how many commands that game played, where the one before played those that were kept
abbrev pub played_after : Kept Command → Change → ℕ
played_after old change = option_map_or (λ (game : Game). game.played) change.game (length old.commands)

-- a change that can be made: there is room for the commands, which are as many as the game after it played; a snapshot is
-- added with a command alone; and there is a stamp after this one
pub record Fits (old : Kept Command) (change : Change) : Type 0 where
  pub room : length (take change.stay old.commands ++ option_to_list change.added) ≤ MOST_COMMANDS
  pub counted : played_after old change ≡ length (take change.stay old.commands ++ option_to_list change.added)
  pub alone : change.added ≡ None → change.snapshot ≡ None
  pub stamp : old.stamp < LAST_STAMP

-- What a change keeps, whatever was played: a command stands behind all others; a request that takes the table back adds
-- none, and leaves the floor; one that forgets raises the floor alone. A turn that is named is one of those that have ended.
abbrev pub KeepsBy : Kit → Kept Command → ℕ → Request Command → Change → Type 0
KeepsBy kit old turns (Play command) change = kept_with old change ≡ kept_after (ends_turn kit) old (Play command)
KeepsBy kit old turns (Back k) change = (k ≤ turns) × (change.floor ≡ old.floor) × (change.added ≡ None)
KeepsBy kit old turns (Forget k) change = (k ≤ turns) × (kept_with old change ≡ kept_after (ends_turn kit) old (Forget k))

-- the change is what this request makes of the table; where its game was the play of what it kept, the one after the change
-- is the play of what it keeps then; and the snapshot that is added is of its first commands
pub record IsChangeBy (kit : Kit) (old : Kept Command) (request : Request Command) (change : Change) : Type 0 where
  pub kept : kept_with old change ≡ kept_after (ends_turn kit) old request
  pub played : (game : Game) → IsPlayOf kit old.commands game
      → IsPlayOf kit (take change.stay old.commands ++ option_to_list change.added) (game_after game change)
  pub shown : IfSome change.snapshot (IsShown kit (take change.stay old.commands ++ option_to_list change.added))
