use Rattle.std.proofs.Common.{sym, ◌∙◌, arith}
use Rattle.rr_running.specs.Net.Centres.{ends_routes, places_from}
use Rattle.rr_running.proofs.NetLemmas.PlaceLemmas.{places_next_yes, places_next_no, places_done}
use Rattle.rr_running.proofs.net.centres.terminal_places.Goals as goal

pub loop-place-preserved : goal.loop-place-preserved
loop-place-preserved c =
    places_next_yes (ends_routes c.args.stations.now c.args.corp) c.args.stops.now c.loop-place.place c.index-stops-place.result (places_from 0 (ends_routes c.args.stations.now c.args.corp) c.args.stops.now)
    c.loop-place.places.items c.push.new.self.items c.loop-place.invariant c.loop-place-test.true c.index-stops-place.is (sym c.ends_routes.ensures ∙ c.if-not-ends_routes.false) c.in_ok-push.ensures.items

pub loop-place-preserved-then-not-ends_routes : goal.loop-place-preserved-then-not-ends_routes
loop-place-preserved-then-not-ends_routes c =
    places_next_no (ends_routes c.args.stations.now c.args.corp) c.args.stops.now c.loop-place.place c.index-stops-place.result (places_from 0 (ends_routes c.args.stations.now c.args.corp) c.args.stops.now)
    c.loop-place.places.items c.loop-place.invariant c.loop-place-test.true c.index-stops-place.is (sym c.ends_routes.ensures ∙ c.if-not-ends_routes.true)

pub returns : goal.returns
returns c =
    places_done (ends_routes c.args.stations.now c.args.corp) c.args.stops.now c.loop-place.place (places_from 0 (ends_routes c.args.stations.now c.args.corp) c.args.stops.now)
    c.loop-place.places.items c.loop-place.invariant (omega arith)
