use Rattle.rr_checker.proofs.FullLemmas.{counted_next}
use Rattle.rr_checker.proofs.full.run_over.Goals as goal

pub loop-train-preserved : goal.loop-train-preserved
loop-train-preserved c =
    counted_next c.args.net.now c.args.fates.now c.loop-train.train c.loop-train.all.items c.push.new.self.items c.in-Some.counted c.loop-train.invariant
    (rw c.in-Some.is at (c.in_ok-counted_by.ensures {u = tt})) c.in_ok-push-in-Some.ensures.items
