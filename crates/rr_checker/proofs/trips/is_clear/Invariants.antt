use Rattle.std.proofs.Common.{◌<◌, ◌+◌, ℕ, length}
use Rattle.rr_routes.specs.Net.{IsTerminal}
use Rattle.rr_checker.specs.Trips.{node_at}
use Rattle.rr_checker.proofs.trips.is_clear.Given as goal

abbrev pub invariant-loop-place : goal.invariant-loop-place
invariant-loop-place l = (k : ℕ) → k < l.place → 0 < k → k + 1 < length l.nodes → IsTerminal l.net (node_at l.nodes k) → ⊥
