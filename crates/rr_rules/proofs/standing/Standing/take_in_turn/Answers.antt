use Rattle.std.proofs.Common.{ap, ◌∙◌, false}
use Rattle.std.proofs.lemmas.Result.{err_from_is_err_and}
use Rattle.rr_desk.proofs.Taking.{shown}
use Rattle.rr_turns.proofs.JudgementLemmas.{lawful-wants}
use Rattle.rr_books.specs.declared.refusal.Refusal.TheVariants.{OutOfMemory}
use Rattle.rr_rules.specs.Judging.{operating_judgement}
use Rattle.rr_rules.specs.State.{AtTable}
use Rattle.rr_rules.proofs.Judging.{turn_lawful_at, turn_refused_at}
use Rattle.rr_rules.proofs.standing.Standing.take_in_turn.Goals as goal

pub returns-in_err-revenue-clause-verdict : goal.returns-in_err-revenue-clause-verdict
returns-in_err-revenue-clause-verdict c state h =
    let p = err_from_is_err_and c.from_residual.result c.from_residual.ensures.1 in
    let stands = shown (c.deref.ensures ∙ ap (λ (t : AtTable). t.position) c.self.view_is) h.position in
    let earned = ap (λ (t : AtTable). t.revenue) c.self.view_is ∙ h.revenue in
    rw (p.1, p.2) (turn_refused_at c.args.kit.now state _ c.args.act.now _ earned (c.in_err-revenue.ensures.verdict state.book stands))

pub returns-in_err-play-clause-verdict : goal.returns-in_err-play-clause-verdict
returns-in_err-play-clause-verdict c state h =
    let p = err_from_is_err_and c.from_residual-in_err-play.result c.from_residual-in_err-play.ensures.1 in
    let stands = shown (c.deref.ensures ∙ ap (λ (t : AtTable). t.position) c.self.view_is) h.position in
    let earned = ap (λ (t : AtTable). t.revenue) c.self.view_is ∙ h.revenue in
    let lawful = turn_lawful_at c.args.kit.now state _ c.args.act.now earned (c.in_ok-revenue.ensures.verdict state.book stands).0 in
    rw (p.1, p.2) (lawful-wants (operating_judgement false c.args.kit.now state c.args.act.now) OutOfMemory _ lawful c.in_err-play.ensures.fault)

pub returns-clause-verdict : goal.returns-clause-verdict
returns-clause-verdict c state h =
    let stands = shown (c.deref.ensures ∙ ap (λ (t : AtTable). t.position) c.self.view_is) h.position in
    let earned = ap (λ (t : AtTable). t.revenue) c.self.view_is ∙ h.revenue in
    turn_lawful_at c.args.kit.now state _ c.args.act.now earned (c.in_ok-revenue.ensures.verdict state.book stands).0
