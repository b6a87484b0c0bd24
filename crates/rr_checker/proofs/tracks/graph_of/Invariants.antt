use Rattle.rr_checker.specs.Steps.{goes_on}
use Rattle.rr_routes.specs.Reachability.Places.{IsGraphOf}
use Rattle.rr_checker.proofs.tracks.graph_of.Given as goal

abbrev pub invariant-loop-step : goal.invariant-loop-step
invariant-loop-step l = IsGraphOf (goes_on l.net) l.steps l.step-index l.graph.items
