use Rattle.std.proofs.Common.{sym, ◌∙◌, arith}
use Rattle.rr_routes.proofs.ReachabilityLemmas.MarkLemmas.{marked_next_none, marked_next_old, marked_next_denied, marked_next_new}
use Rattle.rr_routes.proofs.reachability.search.mark.Goals as goal

pub loop-state-preserved : goal.loop-state-preserved
loop-state-preserved c =
    marked_next_new _ _ _ _ _ _ _ c.index.result.now _ c.loop-state-test.true c.loop-state.invariant (omega (arith, c.loop-state.marks.ok.0)) c.index.ensures c.if-index.false
    (sym c.is_marked.ensures ∙ c.if-not-is_marked.false) c.in_ok-push.ensures.items

pub loop-state-preserved-then-state-len : goal.loop-state-preserved-then-state-len
loop-state-preserved-then-state-len c =
    marked_next_none _ _ _ _ _ _ _ c.loop-state-test.true c.loop-state.invariant (omega (arith, c.loop-state.marks.ok.0))

pub loop-state-preserved-then-index : goal.loop-state-preserved-then-index
loop-state-preserved-then-index c =
    marked_next_old _ _ _ _ _ _ _ c.index.result.now c.loop-state-test.true c.loop-state.invariant c.index.ensures c.if-index.true

pub loop-state-preserved-then-not-is_marked : goal.loop-state-preserved-then-not-is_marked
loop-state-preserved-then-not-is_marked c =
    marked_next_denied _ _ _ _ _ _ _ c.loop-state-test.true c.loop-state.invariant (sym c.is_marked.ensures ∙ c.if-not-is_marked.true)
