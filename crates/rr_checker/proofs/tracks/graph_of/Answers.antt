use Rattle.rr_checker.specs.Steps.{goes_on}
use Rattle.std.proofs.Common.{get_or}
use Rattle.rr_routes.proofs.ReachabilityLemmas.PlaceLemmas.{graph_next}
use Rattle.rr_checker.proofs.PlaceLemmas.{no_step, step_read}
use Rattle.rr_checker.proofs.tracks.graph_of.Goals as goal

pub followers_of-requires : goal.followers_of-requires
followers_of-requires c = c.in_ok-index.ensures {u = tt}

pub loop-step-preserved : goal.loop-step-preserved
loop-step-preserved c =
    graph_next (goes_on c.args.net.now) c.args.steps.now c.loop-step.step-index c.loop-step.graph.items _ c.in_ok-followers.followers (get_or c.args.steps.now c.loop-step.step-index no_step) c.loop-step.invariant c.loop-step-test.true
    (step_read c.args.steps.now c.loop-step.step-index c.loop-step-test.true) c.in_ok-followers.ensures c.in_ok-push.ensures.items
