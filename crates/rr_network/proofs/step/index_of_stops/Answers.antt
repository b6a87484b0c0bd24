use Rattle.std.proofs.Common.{◌≤◌, ℕ, length, ◌∙◌, ap, arith}
use Rattle.rr_routes.specs.Reachability.Index.{noted}
use Rattle.rr_network.proofs.KeyLemmas.{kinds_first, kinds_next, kinds_done}
use Rattle.rr_network.proofs.step.index_of_stops.Goals as goal

pub loop-place-init : goal.loop-place-init
loop-place-init c = kinds_first c.args.stops.now (length c.args.stops.now) c.in_ok-index.index (c.in_ok-index.ensures {u = tt})

pub loop-place-preserved : goal.loop-place-preserved
loop-place-preserved c =
    kinds_next c.args.stops.now c.loop-place.place c.loop-place.index c.note.new.self c.index-stops-place.result c.loop-place-test.true c.index-stops-place.is c.loop-place.invariant
    (c.in_ok-note.ensures.ok ∙ ap (λ (key : ℕ). noted c.loop-place.index key c.loop-place.place) c.centre_key.ensures)

pub returns : goal.returns
returns c =
    let all : length c.args.stops.now ≤ c.loop-place.place = omega arith in
    kinds_done c.args.stops.now c.loop-place.place c.loop-place.index all c.loop-place.invariant
