use Rattle.std.proofs.Common.{◌≤◌, ℕ, length, ◌∙◌, ap, arith}
use Rattle.rr_routes.specs.Reachability.Index.{noted}
use Rattle.rr_network.proofs.KeyLemmas.{lays_first, lays_next, lays_done}
use Rattle.rr_network.proofs.laid.index_of_lays.Goals as goal

pub loop-place-init : goal.loop-place-init
loop-place-init c = lays_first c.args.lays.now (length c.args.lays.now) c.in_ok-index.index (c.in_ok-index.ensures {u = tt})

pub loop-place-preserved : goal.loop-place-preserved
loop-place-preserved c =
    lays_next c.args.lays.now c.loop-place.place c.loop-place.index c.note.new.self c.index-lays-place.result c.loop-place-test.true c.index-lays-place.is c.loop-place.invariant
    (c.in_ok-note.ensures.ok ∙ ap (λ (key : ℕ). noted c.loop-place.index key c.loop-place.place) c.name_key.ensures)

pub returns : goal.returns
returns c =
    let all : length c.args.lays.now ≤ c.loop-place.place = omega arith in
    lays_done c.args.lays.now c.loop-place.place c.loop-place.index all c.loop-place.invariant
