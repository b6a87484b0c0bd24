-- The judgement of a table on a request, from what it keeps alone.
use Rattle.std.specs.Prelude.{◌≡◌, ℕ, ◌==◌, Bool, not, ◌&&◌, nat_le, length, Option, None, Some, if◌then◌else◌}
use Rattle.rr_turns.specs.declared.limits.TheConstants.{LAST_STAMP, MOST_COMMANDS}
use Rattle.rr_kit.specs.declared.kit.Kit.{Kit}
use Rattle.rr_code.specs.declared.command.Command.{Command}
use Rattle.rr_code.specs.Command.{IsCommand}
use Rattle.rr_turns.specs.declared.request.Request.{Request}
use Rattle.rr_turns.specs.declared.request.Request.TheVariants.{Play, Back, Forget}
use Rattle.rr_turns.specs.Judgement.{Judgement, judgement_behind, judgement_map, settled}
use Rattle.rr_turns.specs.Kept.{Kept}
use Rattle.rr_turns.specs.Turns.{ended_turns}
use Rattle.rr_game.specs.declared.history.fault.Fault.{Fault}
use Rattle.rr_game.specs.declared.history.fault.Fault.TheVariants as F
use Rattle.rr_game.specs.History.Fault.{of_game}
use Rattle.rr_game.specs.History.Playing.{game_judgement}
use Rattle.rr_game.specs.Turning.{ends_turn}

-- the turn has ended, and it isn't forgotten
abbrev pub is_kept_turn : Kit → Kept Command → ℕ → Bool
is_kept_turn kit table k = nat_le table.floor k && nat_le k (ended_turns (ends_turn kit) table.commands)

-- why a turn is refused, if it is
abbrev pub turn_verdict : Kit → Kept Command → ℕ → Option Fault
turn_verdict kit table k = if is_kept_turn kit table k then None else Some F.TurnNotKept

-- a table keeps 4,096 commands at most
abbrev pub room_verdict : Kept Command → Option Fault
room_verdict table = if nat_le MOST_COMMANDS (length table.commands) then Some F.TooManyCommands else None

-- the stamp comes first; and a table with the last stamp takes nothing
abbrev pub stamp_verdict : Kept Command → ℕ → Option Fault
stamp_verdict table stamp =
    if not (table.stamp == stamp) then Some (F.StaleStamp table.stamp)
    else if nat_le LAST_STAMP table.stamp then Some F.TooManyCommands
    else None

-- the judgement of a table on a request with its stamp: that of the game on a command comes behind the table's own check;
-- a request for a turn isn't bound by the number of commands, and no rule of the game refuses it
abbrev pub own_judgement : Kit → Kept Command → Request Command → Judgement Fault
own_judgement kit table (Play command) =
    judgement_behind (room_verdict table) (judgement_map of_game (game_judgement kit table.commands command))
own_judgement kit table (Back k) = settled (turn_verdict kit table k)
own_judgement kit table (Forget k) = settled (turn_verdict kit table k)

-- the judgement of a table on a request with this stamp
abbrev pub request_judgement : Kit → Kept Command → ℕ → Request Command → Judgement Fault
request_judgement kit table stamp request = judgement_behind (stamp_verdict table stamp) (own_judgement kit table request)

-- what refuses a request that forgets is a check that takes no memory
abbrev pub IsNoWantOfMemory : Kit → Kept Command → ℕ → Request Command → Fault → Type 0
IsNoWantOfMemory kit table stamp (Forget k) fault = (request_judgement kit table stamp (Forget k)).first ≡ Some fault
IsNoWantOfMemory kit table stamp _ fault = Unit {0}

-- its command, if it has one, is of a form that words spell
abbrev pub IsOfForm : Request Command → Type 0
IsOfForm (Play command) = IsCommand command
IsOfForm (Back k) = Unit {0}
IsOfForm (Forget k) = Unit {0}
