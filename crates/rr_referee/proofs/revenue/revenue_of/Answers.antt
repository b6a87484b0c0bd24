use Rattle.std.proofs.Common.{ℕ, ◌∙◌, ap, arith}
use Rattle.std.specs.List.{sum_by}
use Rattle.std.proofs.lemmas.List.{take_all}
use Rattle.std.proofs.lemmas.List.Sums.{sum_by_more_le}
use Rattle.rr_routes.specs.Routes.{Trip, no_trip, centres, earned, worth}
use Rattle.rr_referee.proofs.ApartLemmas.{trip_read}
use Rattle.rr_referee.proofs.revenue.revenue_of.Goals as goal

pub revenue_along-requires : goal.revenue_along-requires
unfolding earned
revenue_along-requires c =
    let value_of : Trip → ℕ = λ trip. worth c.args.net.now (centres trip.nodes) in
    let here = trip_read c.args.journeys.now c.loop-journey.journey-index c.journey-item.result c.loop-journey-test.true c.journey-item.is in
    let most = sum_by_more_le value_of c.args.journeys.now c.loop-journey.journey-index no_trip c.loop-journey-test.true in
    let all = c.requires in
    rw here (omega (arith, most, all))

pub overflow_add-revenue : goal.overflow_add-revenue
unfolding earned
overflow_add-revenue c =
    let value_of : Trip → ℕ = λ trip. worth c.args.net.now (centres trip.nodes) in
    let here = trip_read c.args.journeys.now c.loop-journey.journey-index c.journey-item.result c.loop-journey-test.true c.journey-item.is in
    let most = sum_by_more_le value_of c.args.journeys.now c.loop-journey.journey-index no_trip c.loop-journey-test.true in
    let all = c.requires in
    let earns = rw here at (c.in_ok-revenue.ensures {u = tt}) in
    let so_far = c.loop-journey.invariant in
    omega (arith, most, all, earns, so_far)

pub returns : goal.returns
unfolding earned
returns c =
    let value_of : Trip → ℕ = λ trip. worth c.args.net.now (centres trip.nodes) in
    c.loop-journey.invariant ∙ ap (sum_by value_of) (take_all c.loop-journey.journey-index c.args.journeys.now (omega arith))
