use Rattle.rr_routes.specs.Reachability.Index.{IsIndexOf}
use Rattle.rr_checker.specs.Searching.{ArrivesAt}
use Rattle.rr_checker.proofs.tracks.arrivals_of.Given as goal

abbrev pub invariant-loop-place : goal.invariant-loop-place
invariant-loop-place l = IsIndexOf (ArrivesAt l.steps l.place) l.index
