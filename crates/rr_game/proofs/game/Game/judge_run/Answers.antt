use Rattle.std.proofs.Common.{None}
use Rattle.std.proofs.lemmas.Result.{err_from_is_err_and}
use Rattle.rr_game.proofs.Judging.{over_unrun, run_alone}
use Rattle.rr_game.proofs.game.Game.judge_run.Goals as goal

pub returns-in_err-judge_end : goal.returns-in_err-judge_end
returns-in_err-judge_end c players state h =
    let p = err_from_is_err_and c.from_residual.result c.from_residual.ensures.1 in
    rw (p.1, p.2) (over_unrun c.args.kit.now players state c.args.corp _ (c.in_err-judge_end.ensures state h))

pub returns-in_err-judge_run : goal.returns-in_err-judge_run
returns-in_err-judge_run c players state h =
    let p = err_from_is_err_and c.from_residual-in_err-judge_run.result c.from_residual-in_err-judge_run.ensures.1 in
    rw (p.1, p.2)
    (run_alone c.args.kit.now players state c.args.corp _ (c.in_ok-judge_end.ensures state h) (c.in_err-judge_run.ensures state h))

pub returns : goal.returns
returns c players state h =
    run_alone c.args.kit.now players state c.args.corp None (c.in_ok-judge_end.ensures state h) (c.in_ok-judge_run.ensures state h)
