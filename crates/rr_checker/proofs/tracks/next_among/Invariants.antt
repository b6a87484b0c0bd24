use Rattle.std.proofs.Common.{take}
use Rattle.rr_checker.specs.Steps.{follows}
use Rattle.rr_routes.specs.Reachability.Places.{ArePassing}
use Rattle.rr_checker.proofs.tracks.next_among.Given as goal

abbrev pub invariant-loop-place : goal.invariant-loop-place
invariant-loop-place l = ArePassing (follows l.steps l.step) (take l.place-index l.places) l.passing
