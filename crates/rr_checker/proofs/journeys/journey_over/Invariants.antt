use Rattle.std.proofs.Common.{ℕ, ◌<◌, get_or}
use Rattle.rr_checker.specs.Trips.{NoneFrom}
use Rattle.rr_checker.proofs.journeys.journey_over.Given as goal

abbrev pub invariant-loop-link : goal.invariant-loop-link
invariant-loop-link l = (k : ℕ) → k < l.link-index → NoneFrom l.net l.limit l.own (get_or l.own k 0)
