use Rattle.std.proofs.Common.{codes, refl}
use Rattle.std.proofs.lemmas.Result.{err_from_is_err_and}
use Rattle.rr_moderator.proofs.Telling.{of_game_calm, told_behind}
use Rattle.rr_moderator.proofs.answering.write_cash.Goals as goal

pub returns-in_err-money-clause-may : goal.returns-in_err-money-clause-may
returns-in_err-money-clause-may c =
    let p = err_from_is_err_and c.from_residual.result c.from_residual.ensures.1 in
    rw (p.1, p.2) (of_game_calm _)

pub returns-clause-may : goal.returns-clause-may
returns-clause-may c = told_behind _ _ _ (codes "= ") _ c.requires c.text.ensures.text refl c.signed.ensures.digits
