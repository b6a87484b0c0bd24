use Rattle.std.proofs.Common.{◌≡◌, ℕ, length, ◌∙◌, ap, arith}
use Rattle.rr_routes.specs.Reachability.Index.{noted}
use Rattle.rr_routes.proofs.ReachabilityLemmas.IndexLemmas.{items_first, items_next, items_done}
use Rattle.rr_network.specs.Indexes.{begins_at}
use Rattle.rr_network.proofs.reach.index_of.Goals as goal

pub loop-place-init : goal.loop-place-init
loop-place-init c = items_first begins_at c.args.steps.now (length c.args.steps.now) c.in_ok-index.index (c.in_ok-index.ensures {u = tt})

pub loop-place-preserved : goal.loop-place-preserved
loop-place-preserved c =
    items_next begins_at c.args.steps.now c.loop-place.place c.loop-place.index c.note.new.self c.index-steps-place.result c.loop-place-test.true c.index-steps-place.is c.loop-place.invariant
    (c.in_ok-note.ensures.ok ∙ ap (λ (key : ℕ). noted c.loop-place.index key c.loop-place.place) c.node_key.ensures)

pub returns : goal.returns
returns c =
    let all : c.loop-place.place ≡ length c.args.steps.now = omega arith in
    items_done begins_at c.args.steps.now c.loop-place.place c.loop-place.index all c.loop-place.invariant
