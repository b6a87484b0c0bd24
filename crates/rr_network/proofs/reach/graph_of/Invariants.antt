use Rattle.rr_network.specs.Walk.{goes_on}
use Rattle.rr_routes.specs.Reachability.Places.{IsGraphOf}
use Rattle.rr_network.proofs.reach.graph_of.Given as goal

abbrev pub invariant-loop-step : goal.invariant-loop-step
invariant-loop-step l = IsGraphOf (goes_on l.network l.corp) l.steps l.step-index l.graph.items
