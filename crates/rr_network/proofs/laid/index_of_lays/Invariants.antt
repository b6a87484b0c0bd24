use Rattle.rr_network.proofs.KeyLemmas.{LaysSoFar}
use Rattle.rr_network.proofs.laid.index_of_lays.Given as goal

abbrev pub invariant-loop-place : goal.invariant-loop-place
invariant-loop-place l = LaysSoFar l.lays l.place l.index
