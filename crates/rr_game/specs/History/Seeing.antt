-- A table in memory as the rules see it: by a state for which its position stands, whatever its commands play.
use Rattle.std.specs.Prelude.{◌≡◌, ◌⊎◌, ℕ, ◌&&◌, nat_le, List, Option, None, Some, if◌then◌else◌}
use Rattle.rr_kit.specs.declared.kit.Kit.{Kit}
use Rattle.rr_code.specs.declared.command.Command.{Command}
use Rattle.rr_rules.specs.State.{GameState, IsStandingOf}
use Rattle.rr_turns.specs.declared.request.Request.{Request}
use Rattle.rr_turns.specs.declared.request.Request.TheVariants.{Play, Back, Forget}
use Rattle.rr_turns.specs.Judgement.{IsVerdict, Judgement, MayFind, judgement_behind, judgement_map, settled}
use Rattle.rr_turns.specs.Kept.{Kept}
use Rattle.rr_turns.specs.Turns.{ended_turns}
use Rattle.rr_game.specs.Play.{play, players_of}
use Rattle.rr_game.specs.Turning.{ends_turn}
use Rattle.rr_game.specs.Verdict.{command_judgement}
use Rattle.rr_game.specs.declared.history.table.Table.{Table}
use Rattle.rr_game.specs.declared.history.fault.Fault.{Fault}
use Rattle.rr_game.specs.declared.history.fault.Fault.TheVariants as F
use Rattle.rr_game.specs.History.Fault.{of_game}
use Rattle.rr_game.specs.History.Tables.{kept_in, turns_in}
use Rattle.rr_game.specs.History.Verdict.{room_verdict, stamp_verdict}

-- what a table keeps, its players, a state for which its position stands, and how many turns have ended in it
pub record Seen : Type 0 where
  pub kept : Kept Command
  pub players : List (List ℕ)
  pub state : GameState
  pub turns : ℕ

-- The table is seen so: its position stands for the book of this state. Nothing is said of what its commands play.
pub record IsSeenAs (table : Table) (seen : Seen) : Type 0 where
  pub kept : kept_in table ≡ seen.kept
  pub players : table.game.players ≡ seen.players
  pub standing : IsStandingOf seen.state table.game.standing
  pub turns : turns_in table ≡ seen.turns

-- as what a table is seen whose game is the play of what it keeps
abbrev pub seen_of : Kit → Kept Command → Seen
seen_of kit kept =
    record { kept = kept; players = players_of kept.commands; state = play kit kept.commands; turns = ended_turns (ends_turn kit) kept.commands }

-- why a turn is refused, if it is
abbrev pub turn_verdict_at : Seen → ℕ → Option Fault
turn_verdict_at seen k = if nat_le seen.kept.floor k && nat_le k seen.turns then None else Some F.TurnNotKept

-- the judgement of a table that is seen so: that of its position on a command comes behind the table's own check
abbrev pub own_judgement_at : Kit → Seen → Request Command → Judgement Fault
own_judgement_at kit seen (Play command) =
    judgement_behind (room_verdict seen.kept) (judgement_map of_game (command_judgement kit seen.players seen.state command))
own_judgement_at kit seen (Back k) = settled (turn_verdict_at seen k)
own_judgement_at kit seen (Forget k) = settled (turn_verdict_at seen k)

-- and on a request with this stamp
abbrev pub judgement_at : Kit → Seen → ℕ → Request Command → Judgement Fault
judgement_at kit seen stamp request = judgement_behind (stamp_verdict seen.kept stamp) (own_judgement_at kit seen request)

-- Why a judge may refuse a request by its judgement: by that, or for want of memory. To take a table back, commands are played
-- again from a snapshot, which may be refused if that isn't of the commands before them.
abbrev pub MayRefuseBy : {F : Type 0} → Judgement F → F → Request Command → F → Type 0
MayRefuseBy judgement wanting (Back k) fault = MayFind judgement wanting fault ⊎ IsVerdict judgement None
MayRefuseBy judgement wanting request fault = MayFind judgement wanting fault

-- the checks of a table that look at no game: the stamp, and for a command its room
abbrev pub plain_judgement : Kept Command → ℕ → Request Command → Judgement Fault
plain_judgement kept stamp (Play command) = judgement_behind (stamp_verdict kept stamp) (settled (room_verdict kept))
plain_judgement kept stamp request = settled (stamp_verdict kept stamp)

-- a fault that is given where these checks say so much: theirs, or another where they find none
abbrev pub Heeds : {F : Type 0} → Option F → F → Type 0
Heeds verdict fault = (verdict ≡ Some fault) ⊎ (verdict ≡ None)
