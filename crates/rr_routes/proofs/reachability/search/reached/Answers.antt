use Rattle.std.proofs.Common.{rules}
use Rattle.rr_routes.proofs.ReachabilityLemmas.SearchLemmas.{reached_by_all}
use Rattle.rr_routes.proofs.reachability.search.reached.Goals as goal

pub returns-clause-reached : goal.returns-clause-reached
returns-clause-reached c =
    reached_by_all c.args.graph.now c.in_ok-allowed.allowed.items c.args.starts.now c.in_ok-marks.marks.items
    (c.in_ok-allowed.ensures.items_if_clones_equal (λ y e. search rules)) (rw c.deref.ensures.value at c.in_ok-marks.ensures.reached)
