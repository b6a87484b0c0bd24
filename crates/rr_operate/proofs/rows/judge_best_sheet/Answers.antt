use Rattle.std.proofs.lemmas.Result.{err_from_is_err_and}
use Rattle.rr_operate.proofs.RunsTold.{best_allowed, best_refused}
use Rattle.rr_operate.proofs.rows.judge_best_sheet.Goals as goal

pub returns-in_err-revenue-clause-verdict : goal.returns-in_err-revenue-clause-verdict
returns-in_err-revenue-clause-verdict c book h =
    let p = err_from_is_err_and c.from_residual.result c.from_residual.ensures.1 in
    rw (p.1, p.2) (best_refused c.args.kit.now book c.args.corp c.args.run.now.words.now c.args.run.now.certificate.now _ (c.in_err-revenue.ensures.judged book h))

pub returns-clause-verdict : goal.returns-clause-verdict
returns-clause-verdict c book h =
    let judged = c.in_ok-revenue.ensures.judged book h in
    (best_allowed c.args.kit.now book c.args.corp c.args.run.now.words.now c.args.run.now.certificate.now judged.0, judged.1)
