use Rattle.std.proofs.Common.{None, Some, sym}
use Rattle.std.proofs.lemmas.Result.{err_from_is_err_and}
use Rattle.rr_rules.proofs.RunLemmas.{at_its_stage}
use Rattle.rr_rules.proofs.standing.Standing.judge_run.Goals as goal

pub returns-in_err-judge_run_in : goal.returns-in_err-judge_run_in
returns-in_err-judge_run_in c state h =
    let p = err_from_is_err_and c.from_residual.result c.from_residual.ensures.1 in
    rw (p.1, p.2)
    (at_its_stage c.stage.result c.args.kit.now state c.args.corp (Some _) (sym (c.stage.ensures state.book h.position)) (c.in_err-judge_run_in.ensures state h))

pub returns : goal.returns
returns c state h =
    at_its_stage c.stage.result c.args.kit.now state c.args.corp None (sym (c.stage.ensures state.book h.position)) (c.in_ok-judge_run_in.ensures state h)
