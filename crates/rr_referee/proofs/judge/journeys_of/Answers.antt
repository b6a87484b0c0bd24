use Rattle.std.proofs.lemmas.Result.{err_from_is_err_and}
use Rattle.rr_referee.proofs.SheetLemmas.{lawful_next, refused_word}
use Rattle.rr_referee.proofs.judge.journeys_of.Goals as goal

pub returns-in_err-journey : goal.returns-in_err-journey
returns-in_err-journey c =
    let p = err_from_is_err_and c.from_residual.result c.from_residual.ensures.1 in
    rw (p.1, p.2) (refused_word c.args.net.now c.args.words.now c.loop-train.train c.loop-train.journeys.items _ (rw c.trains-limit-items.ensures at c.loop-train-test.true) c.loop-train.invariant
    c.in_err-journey.ensures)

pub loop-train-preserved : goal.loop-train-preserved
loop-train-preserved c =
    rw c.in_ok-push.ensures.items (lawful_next c.args.net.now c.args.words.now c.loop-train.train c.loop-train.journeys.items c.in_ok-journey.journey c.loop-train.invariant
    (c.in_ok-journey.ensures {u = tt}))
