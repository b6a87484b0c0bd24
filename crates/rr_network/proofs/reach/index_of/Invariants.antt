use Rattle.rr_routes.specs.Reachability.Index.{IsIndexOf, StandsAt}
use Rattle.rr_network.specs.Indexes.{begins_at}
use Rattle.rr_network.proofs.reach.index_of.Given as goal

abbrev pub invariant-loop-place : goal.invariant-loop-place
invariant-loop-place l = IsIndexOf (StandsAt begins_at l.steps l.place) l.index
