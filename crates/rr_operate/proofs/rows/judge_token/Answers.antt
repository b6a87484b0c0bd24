use Rattle.std.proofs.lemmas.Result.{err_from_is_err_and}
use Rattle.rr_operate.proofs.Told.{token_refused}
use Rattle.rr_operate.proofs.rows.judge_token.Goals as goal

pub returns-in_err-judge_station : goal.returns-in_err-judge_station
returns-in_err-judge_station c book h =
    let p = err_from_is_err_and c.from_residual.result c.from_residual.ensures.1 in
    rw (p.1, p.2) (token_refused c.args.kit.now book c.args.station.now _ (c.in_err-judge_station.ensures book h))
