use Rattle.std.proofs.lemmas.Result.{err_from_is_err_and}
use Rattle.rr_operate.proofs.Told.{tile_refused}
use Rattle.rr_operate.proofs.rows.judge_tile.Goals as goal

pub returns-in_err-judge_lay : goal.returns-in_err-judge_lay
returns-in_err-judge_lay c book h =
    let p = err_from_is_err_and c.from_residual.result c.from_residual.ensures.1 in
    rw (p.1, p.2) (tile_refused c.args.kit.now book c.args.corp c.args.lay.now _ (c.in_err-judge_lay.ensures.verdict book h))
