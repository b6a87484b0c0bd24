use Rattle.std.proofs.Common.{sym, ◌∙◌, arith}
use Rattle.rr_running.specs.Net.Centres.{has_own_token, places_from}
use Rattle.rr_running.proofs.NetLemmas.PlaceLemmas.{places_next_yes, places_next_no, places_done}
use Rattle.rr_running.proofs.net.centres.token_places.Goals as goal

pub loop-place-preserved : goal.loop-place-preserved
loop-place-preserved c =
    places_next_yes (has_own_token c.args.stations.now c.args.corp) c.args.stops.now c.loop-place.place c.index-stops-place.result (places_from 0 (has_own_token c.args.stations.now c.args.corp) c.args.stops.now)
    c.loop-place.places.items c.push.new.self.items c.loop-place.invariant c.loop-place-test.true c.index-stops-place.is (sym c.has_token.ensures ∙ c.if-not-has_token.false) c.in_ok-push.ensures.items

pub loop-place-preserved-then-not-has_token : goal.loop-place-preserved-then-not-has_token
loop-place-preserved-then-not-has_token c =
    places_next_no (has_own_token c.args.stations.now c.args.corp) c.args.stops.now c.loop-place.place c.index-stops-place.result (places_from 0 (has_own_token c.args.stations.now c.args.corp) c.args.stops.now)
    c.loop-place.places.items c.loop-place.invariant c.loop-place-test.true c.index-stops-place.is (sym c.has_token.ensures ∙ c.if-not-has_token.true)

pub returns : goal.returns
returns c =
    places_done (has_own_token c.args.stations.now c.args.corp) c.args.stops.now c.loop-place.place (places_from 0 (has_own_token c.args.stations.now c.args.corp) c.args.stops.now)
    c.loop-place.places.items c.loop-place.invariant (omega arith)
