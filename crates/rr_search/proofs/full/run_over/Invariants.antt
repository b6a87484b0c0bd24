use Rattle.std.proofs.Common.{map}
use Rattle.rr_search.specs.Found.{AreOwnTrips, trip_along}
use Rattle.rr_search.proofs.full.run_over.Given as goal

abbrev pub invariant-loop-train : goal.invariant-loop-train
invariant-loop-train l = AreOwnTrips l.net l.fates l.train (map trip_along l.journeys.items)
