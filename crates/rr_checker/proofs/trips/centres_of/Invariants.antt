use Rattle.std.proofs.Common.{◌≡◌, take}
use Rattle.rr_routes.specs.Routes.{centres}
use Rattle.rr_checker.proofs.trips.centres_of.Given as goal

abbrev pub invariant-loop-node : goal.invariant-loop-node
invariant-loop-node l = l.counted.items ≡ centres (take l.node-index l.nodes)
