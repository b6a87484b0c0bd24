use Rattle.rr_network.specs.Walk.{goes_on}
use Rattle.rr_routes.proofs.ReachabilityLemmas.PlaceLemmas.{graph_next}
use Rattle.rr_network.proofs.reach.graph_of.Goals as goal

pub loop-step-preserved : goal.loop-step-preserved
loop-step-preserved c =
    graph_next (goes_on c.args.network.now c.args.corp) c.args.steps.now c.loop-step.step-index c.loop-step.graph.items _ c.in_ok-followers.followers c.step-item.result c.loop-step.invariant c.loop-step-test.true c.step-item.is c.in_ok-followers.ensures c.in_ok-push.ensures.items
