use Rattle.std.proofs.lemmas.Result.{err_from_is_err_and}
use Rattle.rr_operate.proofs.RunsTold.{run_refused}
use Rattle.rr_operate.proofs.rows.judge_sheet.Goals as goal

pub returns-in_err-revenue-clause-verdict : goal.returns-in_err-revenue-clause-verdict
returns-in_err-revenue-clause-verdict c book h =
    let p = err_from_is_err_and c.from_residual.result c.from_residual.ensures.1 in
    rw (p.1, p.2) (run_refused c.args.kit.now book c.args.corp c.args.words.now _ (c.in_err-revenue.ensures.judged book h))
