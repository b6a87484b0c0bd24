use Rattle.std.proofs.Common.{◌≡◌, ◌+◌, ◌++◌, drop}
use Rattle.rr_network.specs.Walk.{steps_from}
use Rattle.rr_network.proofs.step.steps_of.Given as goal

abbrev pub invariant-loop-i : goal.invariant-loop-i
invariant-loop-i l = l.steps.items ++ steps_from (l.i + 1) (drop l.i l.links) ≡ steps_from 1 l.links
