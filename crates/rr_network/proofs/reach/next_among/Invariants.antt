use Rattle.std.proofs.Common.{take}
use Rattle.rr_routes.specs.Reachability.Places.{ArePassing}
use Rattle.rr_network.specs.Indexes.{follows}
use Rattle.rr_network.proofs.reach.next_among.Given as goal

abbrev pub invariant-loop-place : goal.invariant-loop-place
invariant-loop-place l = ArePassing (follows l.steps l.step) (take l.place-index l.places) l.passing
