-- What a table asks of a run before its words are looked at.
use Rattle.std.specs.Prelude.{ℕ, [], Option}
use Rattle.rr_code.specs.declared.command.Command.{Command}
use Rattle.rr_code.specs.declared.command.Command.TheVariants.{Order}
use Rattle.rr_kit.specs.declared.kit.Kit.{Kit}
use Rattle.rr_orders.specs.declared.order.Order.TheVariants.{Run}
use Rattle.rr_roster.specs.declared.company.Corp.{Corp}
use Rattle.rr_turns.specs.declared.request.Request.TheVariants.{Play}
use Rattle.rr_turns.specs.Kept.{Kept}
use Rattle.rr_game.specs.declared.history.fault.Fault.{Fault}
use Rattle.rr_game.specs.History.Verdict.{request_judgement}

-- what refuses a run of the corporation with this stamp by checks that take no memory, which ask nothing of its words
abbrev pub run_verdict : Kit → Kept Command → ℕ → Corp → Option Fault
run_verdict kit table stamp c = (request_judgement kit table stamp (Play (Order (Run c [])))).first
