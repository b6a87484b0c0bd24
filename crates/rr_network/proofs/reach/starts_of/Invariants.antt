use Rattle.rr_routes.specs.Reachability.Places.{ArePlaces}
use Rattle.rr_network.specs.Walk.{has_token}
use Rattle.rr_network.proofs.reach.starts_of.Given as goal

abbrev pub invariant-loop-place : goal.invariant-loop-place
invariant-loop-place l = ArePlaces (λ step. has_token l.network.stations l.corp step.from) l.steps l.place l.starts.items
