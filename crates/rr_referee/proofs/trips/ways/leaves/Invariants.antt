use Rattle.std.proofs.Common.{ℕ, ◌<◌, get_or}
use Rattle.rr_referee.specs.Trips.Ways.{LeadsOn}
use Rattle.rr_referee.proofs.trips.ways.leaves.Given as goal

abbrev pub invariant-loop-link : goal.invariant-loop-link
invariant-loop-link l = (k : ℕ) → k < l.link-index → LeadsOn l.net l.own (get_or l.own k 0) l.from → ⊥
