use Rattle.std.proofs.Common.{◌≡◌, ◌<◌, [], length, ◌∙◌, arith, rules}
use Rattle.std.proofs.lemmas.List.{nil_from_length}
use Rattle.rr_routes.specs.Reachability.Reach.{followers}
use Rattle.rr_routes.proofs.ReachabilityLemmas.SearchLemmas.{under_way_at_first, under_way_after, marked_if_reached, pending_inside, followers_read}
use Rattle.rr_routes.proofs.reachability.search.reached_within.Goals as goal

pub loop-state-init : goal.loop-state-init
loop-state-init c = under_way_at_first _ _ _ _ _ _ _ (c.in_ok-marks.ensures.items_if_clones_equal (λ y e. search rules)) c.in_ok-pending.ensures.items c.in_ok-mark.ensures

pub offset_bounds-graph-state : goal.offset_bounds-graph-state
offset_bounds-graph-state c =
    let inside : c.in-Some.state < length c.args.graph.now = pending_inside _ _ _ _ _ _ _ c.loop-state.invariant c.in-Some.ensures.items in search rules

pub bounds-graph-state : goal.bounds-graph-state
bounds-graph-state c = pending_inside _ _ _ _ _ _ _ c.loop-state.invariant c.in-Some.ensures.items

pub loop-state-preserved : goal.loop-state-preserved
loop-state-preserved c =
    let inside : c.in-Some.state < length c.args.graph.now = pending_inside _ _ _ _ _ _ _ c.loop-state.invariant c.in-Some.ensures.items in
    let row : c.as_slice.result.now ≡ followers c.args.graph.now c.in-Some.state = c.as_slice.ensures ∙ followers_read _ _ _ inside c.index-graph-state.is in
    under_way_after _ _ _ _ _ c.in-Some.state _ _ (rw c.in-Some.ensures.items at c.loop-state.invariant) (rw row at c.in_ok-mark-2.ensures)

pub returns-clause-reached : goal.returns-clause-reached
returns-clause-reached c =
    let none : c.loop-state.pending.items ≡ [] = nil_from_length c.loop-state.pending.items (omega (arith, c.in_default.ensures.cases.0, c.loop-state.pending.ok.0)) in
    let whole = rw none at c.loop-state.invariant in
    λ state inside. (whole.sound state, marked_if_reached _ _ _ _ whole state inside)
