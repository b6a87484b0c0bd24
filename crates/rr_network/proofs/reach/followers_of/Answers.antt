use Rattle.std.proofs.Common.{◌≡◌, List, false, sym, ◌∙◌, ap}
use Rattle.rr_desk.specs.declared.layout.layout.Station.{Station}
use Rattle.rr_network.specs.declared.network.Stop.{Stop}
use Rattle.rr_routes.specs.Reachability.Index.{noted_at}
use Rattle.rr_routes.specs.Reachability.Places.{ArePassing}
use Rattle.rr_network.specs.Indexes.{follows}
use Rattle.rr_network.specs.Keys.{node_key}
use Rattle.rr_network.specs.Walk.{is_terminal}
use Rattle.rr_network.proofs.FollowLemmas.{followers_found}
use Rattle.rr_network.proofs.reach.followers_of.Goals as goal

pub returns : goal.returns
returns c =
    let net = c.args.network.now in
    let to = c.args.step.now.to in
    let free : is_terminal net.stops net.stations c.args.corp to ≡ false =
    sym (c.is_terminal.ensures ∙ ap (λ (ss : List Stop). is_terminal ss c.stations.result.now c.args.corp to) c.stops.ensures ∙ ap (λ (ss : List Station). is_terminal net.stops ss c.args.corp to) c.stations.ensures) ∙ c.if-is_terminal.false in
    let those : ArePassing (follows c.args.steps.now c.args.step.now) (noted_at c.args.starts.now (node_key to)) c.in_ok-followers.followers =
    rw (c.noted_at.ensures, c.node_key.ensures) at (c.in_ok-followers.ensures {u = tt}) in
    followers_found net c.args.corp c.args.steps.now c.args.step.now c.args.starts.now c.requires.steps free c.in_ok-followers.followers those
