-- A verdict on each command, and on each request to a table.
use Rattle.std.specs.Prelude.{ℕ, List, None, Some}
use Rattle.rr_code.specs.declared.command.Command.{Command}
use Rattle.rr_kit.specs.declared.kit.Kit.{Kit}
use Rattle.rr_rules.specs.State.{GameState}
use Rattle.rr_turns.specs.declared.request.Request.{Request}
use Rattle.rr_turns.specs.Judgement.{IsVerdict, Judgement}
use Rattle.rr_turns.specs.Kept.{Kept}
use Rattle.rr_books.specs.declared.refusal.Refusal.TheVariants as F
use Rattle.rr_game.specs.History.Verdict.{request_judgement}
use Rattle.rr_game.specs.Verdict.{command_judgement}

-- there is a verdict: no fault, or one; it can't be that neither is so
abbrev pub HasAVerdict : {F : Type 0} → Judgement F → Type 0
HasAVerdict {F} judgement = ¬ ((¬ IsVerdict judgement None) × ((fault : F) → ¬ IsVerdict judgement (Some fault)))

-- each command has one, whatever the kit, the players and the state of the table are
abbrev pub EachCommandHasAVerdict : Type 0
EachCommandHasAVerdict = (kit : Kit) (players : List (List ℕ)) (state : GameState) (command : Command) → HasAVerdict (command_judgement kit players state command)

-- and none of them is want of memory, which no rule knows
abbrev pub NoRuleWantsMemory : Type 0
NoRuleWantsMemory = (kit : Kit) (players : List (List ℕ)) (state : GameState) (command : Command) → ¬ IsVerdict (command_judgement kit players state command) (Some F.OutOfMemory)

-- each request has one, to be taken back and to forget too, whatever the table keeps and whichever stamp is given
abbrev pub EachRequestHasAVerdict : Type 0
EachRequestHasAVerdict = (kit : Kit) (table : Kept Command) (stamp : ℕ) (request : Request Command) → HasAVerdict (request_judgement kit table stamp request)
