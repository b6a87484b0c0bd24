use Rattle.rr_referee.proofs.TripsLemmas.RouteLemmas.{two_are_enough}
use Rattle.rr_referee.proofs.trips.laws.two_centres_are_enough.Goals as goal

pub returns : goal.returns
returns c = two_are_enough
