use Rattle.std.proofs.Common.{ℕ, ◌<◌, get_or}
use Rattle.rr_routes.specs.declared.net.Node.TheVariants.{Centre}
use Rattle.rr_referee.specs.Trips.Ways.{Leaves}
use Rattle.rr_referee.proofs.trips.ways.some_leaves.Given as goal

abbrev pub invariant-loop-centre : goal.invariant-loop-centre
invariant-loop-centre l = (k : ℕ) → k < l.centre-index → Leaves l.net l.own (Centre (get_or l.centres k 0)) → ⊥
