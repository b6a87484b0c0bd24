use Rattle.std.proofs.Common.{take}
use Rattle.rr_routes.specs.Reachability.Reach.{AreMarked}
use Rattle.rr_routes.proofs.reachability.search.mark.Given as goal

abbrev pub invariant-loop-state : goal.invariant-loop-state
invariant-loop-state l = AreMarked (take l.state-index l.states) l.allowed l.initial.marks.items l.initial.pending.items l.marks.items l.pending.items
