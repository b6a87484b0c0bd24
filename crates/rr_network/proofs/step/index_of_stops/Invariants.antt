use Rattle.rr_network.proofs.KeyLemmas.{KindsSoFar}
use Rattle.rr_network.proofs.step.index_of_stops.Given as goal

abbrev pub invariant-loop-place : goal.invariant-loop-place
invariant-loop-place l = KindsSoFar l.stops l.place l.index
