use Rattle.rr_referee.proofs.ApartLemmas.{ApartSoFar}
use Rattle.rr_referee.proofs.apart.are_apart.Given as goal

abbrev pub invariant-loop-place : goal.invariant-loop-place
invariant-loop-place l = ApartSoFar l.journeys l.place
