use Rattle.std.proofs.Common.{take}
use Rattle.rr_routes.specs.Routes.{NoneTwice}
use Rattle.rr_checker.proofs.trips.is_simple.Given as goal

abbrev pub invariant-loop-place : goal.invariant-loop-place
invariant-loop-place l = NoneTwice (take l.place l.nodes)
