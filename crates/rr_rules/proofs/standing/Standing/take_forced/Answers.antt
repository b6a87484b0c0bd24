use Rattle.std.proofs.Common.{ap, ◌∙◌}
use Rattle.std.proofs.lemmas.Result.{err_from_is_err_and}
use Rattle.rr_desk.proofs.Taking.{shown}
use Rattle.rr_rules.specs.State.{AtTable}
use Rattle.rr_rules.proofs.Judging.{force_lawful, force_refused}
use Rattle.rr_rules.proofs.standing.Standing.take_forced.Goals as goal

pub returns-in_err-judge-clause-verdict : goal.returns-in_err-judge-clause-verdict
returns-in_err-judge-clause-verdict c state h =
    let p = err_from_is_err_and c.from_residual.result c.from_residual.ensures.1 in
    let stands = shown (c.deref.ensures ∙ ap (λ (t : AtTable). t.position) c.self.view_is) h.position in
    rw (p.1, p.2) (force_refused c.args.kit.now state c.args.act.now _ (c.in_err-judge.ensures.verdict state.book stands))

pub returns-clause-verdict : goal.returns-clause-verdict
returns-clause-verdict c state h =
    let stands = shown (c.deref.ensures ∙ ap (λ (t : AtTable). t.position) c.self.view_is) h.position in
    force_lawful c.args.kit.now state c.args.act.now (c.in_ok-judge.ensures.verdict state.book stands)
