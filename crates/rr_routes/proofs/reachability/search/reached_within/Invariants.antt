use Rattle.std.proofs.Common.{◌+◌, not, length, count_by}
use Rattle.rr_routes.proofs.ReachabilityLemmas.SearchLemmas.{IsUnderWay}
use Rattle.rr_routes.proofs.reachability.search.reached_within.Given as goal

abbrev pub invariant-loop-state : goal.invariant-loop-state
invariant-loop-state l = IsUnderWay l.graph l.allowed l.starts l.marks.items l.pending.items

abbrev pub decreases-loop-state : goal.decreases-loop-state
decreases-loop-state l = count_by not l.marks.items + length l.pending.items
