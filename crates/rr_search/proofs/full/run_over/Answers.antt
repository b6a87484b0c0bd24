use Rattle.rr_search.proofs.FoundLemmas.{own_next}
use Rattle.rr_search.proofs.full.run_over.Goals as goal

pub loop-train-preserved : goal.loop-train-preserved
loop-train-preserved c =
    own_next c.args.net.now c.args.fates.now c.loop-train.train c.loop-train.journeys.items c.push.new.self.items c.in-Some.journey c.loop-train.invariant
    (rw c.in-Some.is at (c.in_ok-journey_of.ensures {u = tt})) c.in_ok-push-in-Some.ensures.items
