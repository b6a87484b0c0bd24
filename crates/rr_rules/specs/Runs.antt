-- What is asked of a run before its words are looked at.
use Rattle.std.specs.Prelude.{[], Option}
use Rattle.rr_roster.specs.declared.company.Corp.{Corp}
use Rattle.rr_books.specs.declared.acts.Act.TheVariants as A
use Rattle.rr_kit.specs.declared.kit.Kit.{Kit}
use Rattle.rr_books.specs.declared.refusal.Refusal.{Refusal}
use Rattle.rr_rules.specs.Judging.{judgement}
use Rattle.rr_rules.specs.State.{GameState}

-- what refuses a run of the corporation by checks that take no memory, which ask nothing of its words
abbrev pub run_verdict : Kit → GameState → Corp → Option Refusal
run_verdict kit state c = (judgement kit state (A.Run c [])).first
