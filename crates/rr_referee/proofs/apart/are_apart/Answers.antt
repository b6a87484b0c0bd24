use Rattle.std.proofs.Common.{sym, ◌∙◌, arith}
use Rattle.rr_referee.proofs.ApartLemmas.{apart_broken, apart_next, apart_done, trip_read}
use Rattle.rr_referee.proofs.apart.are_apart.Goals as goal

pub returns-then-meets_any : goal.returns-then-meets_any
returns-then-meets_any c =
    let here = trip_read c.args.journeys.now c.loop-place.place c.index-journeys-place.result c.loop-place-test.true c.index-journeys-place.is in
    apart_broken c.args.journeys.now c.loop-place.place c.loop-place-test.true (rw here at (sym c.meets_any.ensures ∙ c.if-meets_any.true))

pub loop-place-preserved : goal.loop-place-preserved
loop-place-preserved c =
    let here = trip_read c.args.journeys.now c.loop-place.place c.index-journeys-place.result c.loop-place-test.true c.index-journeys-place.is in
    apart_next c.args.journeys.now c.loop-place.place c.loop-place-test.true (rw here at (sym c.meets_any.ensures ∙ c.if-meets_any.false)) c.loop-place.invariant

pub returns : goal.returns
returns c = apart_done c.args.journeys.now c.loop-place.place (omega arith) c.loop-place.invariant
