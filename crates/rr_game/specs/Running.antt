-- What is asked of a run before its words are looked at.
use Rattle.std.specs.Prelude.{ℕ, List, [], Option}
use Rattle.rr_code.specs.declared.command.Command.TheVariants.{Order}
use Rattle.rr_kit.specs.declared.kit.Kit.{Kit}
use Rattle.rr_orders.specs.declared.order.Order.TheVariants.{Run}
use Rattle.rr_roster.specs.declared.company.Corp.{Corp}
use Rattle.rr_rules.specs.State.{GameState}
use Rattle.rr_books.specs.declared.refusal.Refusal.{Refusal}
use Rattle.rr_game.specs.Verdict.{command_judgement}

-- what refuses a run of the corporation by checks that take no memory, which ask nothing of its words
abbrev pub run_verdict : Kit → List (List ℕ) → GameState → Corp → Option Refusal
run_verdict kit players state c = (command_judgement kit players state (Order (Run c []))).first
