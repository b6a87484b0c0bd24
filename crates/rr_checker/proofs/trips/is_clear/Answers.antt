use Rattle.std.proofs.Common.{◌≤◌, length, sym, ◌∙◌, arith}
use Rattle.rr_checker.proofs.TripLemmas.{clear_broken, clear_next, clear_done}
use Rattle.rr_checker.proofs.trips.is_clear.Goals as goal

pub returns-then-stops_at : goal.returns-then-stops_at
returns-then-stops_at c = clear_broken c.args.net.now c.args.nodes.now c.loop-place.place (sym c.stops_at.ensures ∙ c.if-stops_at.true)

pub loop-place-preserved : goal.loop-place-preserved
loop-place-preserved c = clear_next c.args.net.now c.args.nodes.now c.loop-place.place c.loop-place.invariant (sym c.stops_at.ensures ∙ c.if-stops_at.false)

pub returns : goal.returns
returns c =
    let all : length c.args.nodes.now ≤ c.loop-place.place = omega arith in
    clear_done c.args.net.now c.args.nodes.now c.loop-place.place all c.loop-place.invariant
