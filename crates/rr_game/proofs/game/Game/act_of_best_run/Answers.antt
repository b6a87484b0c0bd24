use Rattle.std.proofs.lemmas.Result.{err_from_is_err_and}
use Rattle.rr_game.proofs.Judging.{best_run_refused, best_run_wants}
use Rattle.rr_game.proofs.game.Game.act_of_best_run.Goals as goal

pub returns-in_err-judge_run : goal.returns-in_err-judge_run
returns-in_err-judge_run c =
    let p = err_from_is_err_and c.from_residual.result c.from_residual.ensures.1 in
    rw (p.1, p.2)
    (λ state h. best_run_refused c.args.kit.now state c.args.corp c.args.sheet.now c.args.certificate.now _ (c.in_err-judge_run.ensures state h))

pub returns-in_err-sheet : goal.returns-in_err-sheet
returns-in_err-sheet c =
    let p = err_from_is_err_and c.from_residual-in_err-sheet.result c.from_residual-in_err-sheet.ensures.1 in
    rw (p.1, p.2)
    (λ state h. best_run_wants c.args.kit.now state c.args.corp c.args.sheet.now c.args.certificate.now _ (c.in_ok-judge_run.ensures state h) c.in_err-sheet.ensures.err)

pub returns-in_err-certificate : goal.returns-in_err-certificate
returns-in_err-certificate c =
    let p = err_from_is_err_and c.from_residual-in_err-certificate.result c.from_residual-in_err-certificate.ensures.1 in
    rw (p.1, p.2)
    (λ state h. best_run_wants c.args.kit.now state c.args.corp c.args.sheet.now c.args.certificate.now _ (c.in_ok-judge_run.ensures state h) c.in_err-certificate.ensures.err)
