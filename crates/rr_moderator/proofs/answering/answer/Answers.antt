use Rattle.std.proofs.Common.{codes}
use Rattle.std.proofs.lemmas.Result.{err_from_is_err_and}
use Rattle.rr_moderator.proofs.Telling.{told_again}
use Rattle.rr_moderator.proofs.answering.answer.Goals as goal

pub returns-in_err-write_answer-in-None-clause-may : goal.returns-in_err-write_answer-in-None-clause-may
returns-in_err-write_answer-in-None-clause-may g c =
    let p = err_from_is_err_and c.from_residual.result c.from_residual.ensures.1 in
    rw (p.1, p.2) c.in_err-write_answer-in-None.ensures.may

pub returns-in_ok-write_answer-in-None-clause-may : goal.returns-in_ok-write_answer-in-None-clause-may
returns-in_ok-write_answer-in-None-clause-may g c = told_again _ _ (codes "\n") c.in_ok-write_answer-in-None.ensures.may c.text.ensures.text
