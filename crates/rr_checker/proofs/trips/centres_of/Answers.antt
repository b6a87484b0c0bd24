use Rattle.rr_checker.proofs.TripLemmas.{centres-next}
use Rattle.rr_checker.proofs.trips.centres_of.Goals as goal

pub loop-node-preserved : goal.loop-node-preserved
loop-node-preserved c =
    centres-next c.args.nodes.now c.loop-node.node-index c.loop-node.counted.items c.push_centre.new.counted.items c.loop-node-test.true c.loop-node.invariant
    (c.in_ok-push_centre.ensures {u = tt})
