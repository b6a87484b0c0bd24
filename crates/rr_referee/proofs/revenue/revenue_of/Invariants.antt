use Rattle.std.proofs.Common.{◌≡◌, take}
use Rattle.std.specs.List.{sum_by}
use Rattle.rr_routes.specs.Routes.{centres, worth}
use Rattle.rr_referee.proofs.revenue.revenue_of.Given as goal

abbrev pub invariant-loop-journey : goal.invariant-loop-journey
invariant-loop-journey l = l.revenue ≡ sum_by (λ trip. worth l.net (centres trip.nodes)) (take l.journey-index l.journeys)
