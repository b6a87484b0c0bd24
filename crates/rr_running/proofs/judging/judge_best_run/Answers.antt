use Rattle.std.proofs.Common.{◌≡◌, ℕ, None, ap, subst, ◌∙◌}
use Rattle.std.proofs.lemmas.Result.{err_from_is_err_and}
use Rattle.rr_desk.specs.Incomes.{dollars}
use Rattle.rr_routes.specs.Net.{Net}
use Rattle.rr_running.specs.Running.{IsBestVerdictOn, earned_on}
use Rattle.rr_running.proofs.Judged.{IsBestRefusal, certified, refused_before, uncertified}
use Rattle.rr_running.proofs.judging.judge_best_run.Goals as goal

pub returns-in_err-earned-clause-judged : goal.returns-in_err-earned-clause-judged
returns-in_err-earned-clause-judged c book h =
    let p = err_from_is_err_and c.from_residual-in_err-earned.result c.from_residual-in_err-earned.ensures.1 in
    let fault = c.in_err-earned.field-0.0 in
    let So : Net → Type 0 = λ net. IsBestRefusal net c.args.run.now.words.now c.args.run.now.certificate.now fault in
    rw (p.1, p.2) (subst So (c.in_ok-net.ensures.net book h)
    (refused_before c.in_ok-net.net c.args.run.now.words.now c.args.run.now.certificate.now fault c.in_err-earned.ensures.judged))

pub returns-in_err-judge_certificate-clause-judged : goal.returns-in_err-judge_certificate-clause-judged
returns-in_err-judge_certificate-clause-judged c book h =
    let p = err_from_is_err_and c.from_residual-in_err-judge_certificate.result c.from_residual-in_err-judge_certificate.ensures.1 in
    let fault = c.in_err-judge_certificate.field-0.0 in
    let lawful = (c.in_ok-earned.ensures {u = tt}).judged in
    let So : Net → Type 0 = λ net. IsBestRefusal net c.args.run.now.words.now c.args.run.now.certificate.now fault in
    rw (p.1, p.2) (subst So (c.in_ok-net.ensures.net book h)
    (uncertified c.in_ok-net.net c.args.run.now.words.now c.args.run.now.certificate.now c.in_ok-earned.earned fault lawful.0 lawful.1 c.in_err-judge_certificate.ensures))

pub returns-clause-judged : goal.returns-clause-judged
returns-clause-judged c book h =
    let lawful = (c.in_ok-earned.ensures {u = tt}).judged in
    let So : Net → Type 0 = λ net. IsBestVerdictOn net c.args.run.now.words.now c.args.run.now.certificate.now None × (c.in_ok-earned.earned ≡ earned_on net c.args.run.now.words.now) in
    let so = subst So (c.in_ok-net.ensures.net book h)
    (certified c.in_ok-net.net c.args.run.now.words.now c.args.run.now.certificate.now c.in_ok-earned.earned lawful.0 lawful.1 (c.in_ok-judge_certificate.ensures {u = tt}), lawful.1) in
    (so.0, c.amount.ensures.value ∙ ap (λ (n : ℕ). dollars n) so.1)
