use Rattle.std.proofs.Common.{◌∙◌}
use Rattle.std.proofs.lemmas.Result.{err_from_is_err_and}
use Rattle.rr_turns.specs.declared.request.Request.TheVariants.{Forget}
use Rattle.rr_game.specs.History.Tables.{kept_in}
use Rattle.rr_game.proofs.HistoryLemmas.Judging.{lawful_turn, stamp_refuses, turn_refuses}
use Rattle.rr_game.proofs.history.table.Table.forget.Goals as goal

pub returns-in_err-judge_stamp-clause-verdict : goal.returns-in_err-judge_stamp-clause-verdict
returns-in_err-judge_stamp-clause-verdict c = λ kit h.
    let p = err_from_is_err_and c.from_residual.result c.from_residual.ensures.1 in
    rw (p.1, p.2) (stamp_refuses kit (kept_in c.args.self.now) c.args.stamp (Forget c.args.turn) _ c.in_err-judge_stamp.ensures.verdict)

pub returns-in_err-change-clause-verdict : goal.returns-in_err-change-clause-verdict
returns-in_err-change-clause-verdict c = λ kit h.
    let p = err_from_is_err_and c.from_residual-in_err-change.result c.from_residual-in_err-change.ensures.1 in
    rw (p.1, p.2)
    (turn_refuses kit (kept_in c.args.self.now) c.args.stamp c.args.turn _ c.in_ok-judge_stamp.ensures.verdict (c.in_err-change.ensures.verdict kit h))

pub returns-clause-verdict : goal.returns-clause-verdict
returns-clause-verdict c = λ kit h.
    lawful_turn kit (kept_in c.args.self.now) c.args.stamp c.args.turn c.in_ok-judge_stamp.ensures.verdict (c.in_ok-change.ensures.verdict kit h)

pub returns-clause-kept : goal.returns-clause-kept
returns-clause-kept c = λ kit. c.take.ensures.kept ∙ (c.in_ok-change.ensures.kept kit).1

pub returns-clause-played : goal.returns-clause-played
returns-clause-played c = λ kit before.
    c.take.ensures.played kit (Forget c.args.turn) before (c.in_ok-change.ensures.change kit before)

pub returns-clause-named : goal.returns-clause-named
returns-clause-named c = λ kit before named.
    c.take.ensures.named kit (Forget c.args.turn) before (c.in_ok-change.ensures.change kit before) c.in_ok-change.ensures.shows named
