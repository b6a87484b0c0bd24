use Rattle.std.proofs.Common.{inl}
use Rattle.std.proofs.lemmas.Result.{err_from_is_err_and}
use Rattle.rr_rules.proofs.ForcedLemmas.Raises.{raise_told}
use Rattle.rr_rules.proofs.forced.judging.judge_raise.Goals as goal

pub returns-in_err-judge_raise_for-clause-verdict : goal.returns-in_err-judge_raise_for-clause-verdict
returns-in_err-judge_raise_for-clause-verdict c book h =
    let p = err_from_is_err_and c.from_residual-in_err-judge_raise_for.result c.from_residual-in_err-judge_raise_for.ensures.1 in
    rw (p.1, p.2)
    (inl (raise_told c.args.kit.now book c.args.position.now c.chart.result.now c.in_ok-need.need c.args.raise.seat c.args.raise.corp c.args.raise.count _ h c.chart.ensures
    (c.in_ok-need.ensures.need book h) c.in_err-judge_raise_for.ensures.shown))
