use Rattle.rr_referee.proofs.TripsLemmas.NearLemmas.{IsFlood}
use Rattle.rr_referee.proofs.trips.near.is_stranded.Given as goal

abbrev pub invariant-loop-done : goal.invariant-loop-done
invariant-loop-done l = IsFlood l.net l.link l.left l.done l.near.items l.rest.items
