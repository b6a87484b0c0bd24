use Rattle.std.proofs.Common.{◌<◌, ℕ}
use Rattle.rr_checker.specs.Trips.{GoesAt}
use Rattle.rr_checker.proofs.trips.is_walk.Given as goal

abbrev pub invariant-loop-place : goal.invariant-loop-place
invariant-loop-place l = (k : ℕ) → k < l.place → GoesAt l.net l.links l.nodes k
