use Rattle.rr_checker.specs.Steps.{has_token}
use Rattle.rr_routes.specs.Reachability.Places.{ArePlaces}
use Rattle.rr_checker.proofs.tracks.starts_of.Given as goal

abbrev pub invariant-loop-place : goal.invariant-loop-place
invariant-loop-place l = ArePlaces (λ step. has_token l.net step.from) l.steps l.place l.starts.items
