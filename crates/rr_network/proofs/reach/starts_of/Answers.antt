use Rattle.std.proofs.Common.{◌≡◌, List, length, sym, ◌∙◌, ap, arith}
use Rattle.rr_desk.specs.declared.layout.layout.Station.{Station}
use Rattle.rr_network.specs.Walk.{has_token}
use Rattle.rr_routes.proofs.ReachabilityLemmas.PlaceLemmas.{places_next_yes, places_next_no, places_done}
use Rattle.rr_network.proofs.reach.starts_of.Goals as goal

pub loop-place-preserved : goal.loop-place-preserved
loop-place-preserved c =
    places_next_yes (λ step. has_token c.args.network.now.stations c.args.corp step.from) c.args.steps.now c.loop-place.place c.loop-place.starts.items _ c.index-steps-place.result c.loop-place.invariant c.loop-place-test.true c.index-steps-place.is
    (sym (c.has_token.ensures ∙ ap (λ (ss : List Station). has_token ss c.args.corp c.index-steps-place.result.from) c.stations.ensures) ∙ c.if-not-has_token.false)
    c.in_ok-push.ensures.items

pub loop-place-preserved-then-not-has_token : goal.loop-place-preserved-then-not-has_token
loop-place-preserved-then-not-has_token c =
    places_next_no (λ step. has_token c.args.network.now.stations c.args.corp step.from) c.args.steps.now c.loop-place.place c.loop-place.starts.items c.index-steps-place.result c.loop-place.invariant c.loop-place-test.true c.index-steps-place.is
    (sym (c.has_token.ensures ∙ ap (λ (ss : List Station). has_token ss c.args.corp c.index-steps-place.result.from) c.stations.ensures) ∙ c.if-not-has_token.true)

pub returns : goal.returns
returns c =
    let all : c.loop-place.place ≡ length c.args.steps.now = omega arith in
    places_done (λ step. has_token c.args.network.now.stations c.args.corp step.from) c.args.steps.now c.loop-place.place c.loop-place.starts.items c.loop-place.invariant all
