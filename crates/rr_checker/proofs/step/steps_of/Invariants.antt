use Rattle.rr_checker.proofs.StepLemmas.{AreSteps}
use Rattle.rr_checker.proofs.step.steps_of.Given as goal

abbrev pub invariant-loop-place : goal.invariant-loop-place
invariant-loop-place l = AreSteps l.net l.place l.steps.items
