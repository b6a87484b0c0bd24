use Rattle.std.proofs.Common.{◌≡◌, ℕ, None, ap, subst, ◌∙◌}
use Rattle.rr_desk.specs.Incomes.{dollars}
use Rattle.rr_routes.specs.Net.{Net}
use Rattle.rr_running.specs.Running.{IsVerdictOn, earned_on}
use Rattle.rr_running.proofs.judging.judge_run.Goals as goal

pub returns-clause-judged : goal.returns-clause-judged
returns-clause-judged c book h =
    let So : Net → Type 0 = λ net. IsVerdictOn net c.args.words.now None × (c.in_ok-revenue.revenue ≡ earned_on net c.args.words.now) in
    let so = subst So (c.in_ok-net.ensures.net book h) (c.in_ok-revenue.ensures {u = tt}).judged in
    (so.0, c.amount.ensures.value ∙ ap (λ (n : ℕ). dollars n) so.1)
