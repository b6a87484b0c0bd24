use Rattle.std.proofs.Common.{◌+◌, length}
use Rattle.rr_network.proofs.OverLemmas.{AreOverSoFar}
use Rattle.rr_network.proofs.reach.links_over.Given as goal

abbrev pub invariant-loop-step : goal.invariant-loop-step
invariant-loop-step l = AreOverSoFar l.steps l.step-index (length l.links + 1) l.marks.items
