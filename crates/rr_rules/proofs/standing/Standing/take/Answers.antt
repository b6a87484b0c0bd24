use Rattle.std.proofs.Common.{sym}
use Rattle.std.proofs.lemmas.Result.{err_from_is_err_and}
use Rattle.rr_rules.proofs.Judging.{named_lawful, named_refused, unnamed}
use Rattle.rr_rules.proofs.standing.Standing.take.Goals as goal

pub returns-in_err-judge_names-clause-verdict : goal.returns-in_err-judge_names-clause-verdict
returns-in_err-judge_names-clause-verdict c state h =
    let p = err_from_is_err_and c.from_residual.result c.from_residual.ensures.1 in
    rw (p.1, p.2) (unnamed c.args.kit.now state c.args.act.now _ c.in_err-judge_names.ensures)

pub returns-in_err-taken-clause-verdict : goal.returns-in_err-taken-clause-verdict
returns-in_err-taken-clause-verdict c state h =
    let p = err_from_is_err_and c.from_residual-in_err-taken.result c.from_residual-in_err-taken.ensures.1 in
    rw (p.1, p.2)
    (named_refused c.stage.result c.args.kit.now state c.args.act.now _ (sym (c.stage.ensures state.book h.position)) c.in_ok-judge_names.ensures (c.in_err-taken.ensures.verdict state h))

pub returns-clause-verdict : goal.returns-clause-verdict
returns-clause-verdict c state h =
    named_lawful c.stage.result c.args.kit.now state c.args.act.now (sym (c.stage.ensures state.book h.position)) c.in_ok-judge_names.ensures (c.in_ok-taken.ensures.verdict state h)
