use Rattle.std.specs.Prelude.{ℕ, ◌≤◌}
use Rattle.std.proofs.Common.{◌∙◌, ap, inl, subst}
use Rattle.std.proofs.lemmas.Result.{err_from_is_err_and}
use Rattle.rr_books.specs.State.{State}
use Rattle.rr_rules.proofs.ForcedLemmas.Raises.{bankrupt_told}
use Rattle.rr_rules.proofs.forced.judging.judge_bankrupt.Goals as goal

pub returns-in_err-judge_bankrupt_for : goal.returns-in_err-judge_bankrupt_for
returns-in_err-judge_bankrupt_for c book h =
    let p = err_from_is_err_and c.from_residual-in_err-judge_bankrupt_for.result c.from_residual-in_err-judge_bankrupt_for.ensures.1 in
    let Few : ℕ → Type 0 = λ n. n ≤ 6 in
    let few = subst Few (c.players-players.ensures.shown ∙ ap (λ (s : State). s.players) c.books.ensures) c.players-players.ensures.greatest in
    rw (p.1, p.2)
    (inl (bankrupt_told c.args.kit.now book c.args.position.now c.chart.result.now c.in_ok-need.need c.args.seat c.can_raise-can_raise.result _ h few c.chart.ensures
    (c.in_ok-need.ensures.need book h) c.can_raise-can_raise.ensures c.in_err-judge_bankrupt_for.ensures))

pub returns : goal.returns
returns c book h =
    let Few : ℕ → Type 0 = λ n. n ≤ 6 in
    let few = subst Few (c.players-players.ensures.shown ∙ ap (λ (s : State). s.players) c.books.ensures) c.players-players.ensures.greatest in
    bankrupt_told c.args.kit.now book c.args.position.now c.chart.result.now c.in_ok-need.need c.args.seat c.can_raise-can_raise.result _ h few c.chart.ensures
    (c.in_ok-need.ensures.need book h) c.can_raise-can_raise.ensures c.in_ok-judge_bankrupt_for.ensures
