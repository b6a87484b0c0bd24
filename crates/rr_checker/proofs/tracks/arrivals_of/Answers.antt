use Rattle.std.proofs.Common.{◌≡◌, ℕ, length, get_or, ◌∙◌, ap, arith}
use Rattle.rr_routes.specs.Reachability.Index.{noted}
use Rattle.rr_routes.proofs.ReachabilityLemmas.IndexLemmas.{items_first, items_next, items_done}
use Rattle.rr_checker.specs.Searching.{arrives_at}
use Rattle.rr_checker.proofs.PlaceLemmas.{no_step, step_read}
use Rattle.rr_checker.proofs.tracks.arrivals_of.Goals as goal

pub loop-place-init : goal.loop-place-init
loop-place-init c = items_first arrives_at c.args.steps.now (length c.args.steps.now) c.in_ok-index.index (c.in_ok-index.ensures {u = tt})

pub loop-place-preserved : goal.loop-place-preserved
loop-place-preserved c =
    items_next arrives_at c.args.steps.now c.loop-place.place c.loop-place.index c.note.new.self (get_or c.args.steps.now c.loop-place.place no_step) c.loop-place-test.true
    (step_read c.args.steps.now c.loop-place.place c.loop-place-test.true) c.loop-place.invariant
    (c.in_ok-note.ensures.ok ∙ ap (λ (key : ℕ). noted c.loop-place.index key c.loop-place.place) c.node_key.ensures)

pub returns : goal.returns
returns c =
    let all : c.loop-place.place ≡ length c.args.steps.now = omega arith in
    items_done arrives_at c.args.steps.now c.loop-place.place c.loop-place.index all c.loop-place.invariant
