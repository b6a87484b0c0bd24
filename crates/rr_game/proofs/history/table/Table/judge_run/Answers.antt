use Rattle.std.proofs.Common.{None, Some}
use Rattle.std.proofs.lemmas.Result.{err_from_is_err_and}
use Rattle.rr_game.specs.Play.{play, players_of}
use Rattle.rr_game.specs.History.Tables.{kept_in}
use Rattle.rr_game.proofs.HistoryLemmas.Judging.{run_alone, run_unroomed, run_unstamped}
use Rattle.rr_game.proofs.history.table.Table.judge_run.Goals as goal

pub returns-in_err-judge_stamp : goal.returns-in_err-judge_stamp
returns-in_err-judge_stamp c h =
    let p = err_from_is_err_and c.from_residual.result c.from_residual.ensures.1 in
    rw (p.1, p.2) (run_unstamped c.args.kit.now (kept_in c.args.self.now) c.args.stamp c.args.corp _ c.in_err-judge_stamp.ensures.verdict)

pub returns-in_err-judge_room : goal.returns-in_err-judge_room
returns-in_err-judge_room c h =
    let p = err_from_is_err_and c.from_residual-in_err-judge_room.result c.from_residual-in_err-judge_room.ensures.1 in
    rw (p.1, p.2)
    (run_unroomed c.args.kit.now (kept_in c.args.self.now) c.args.stamp c.args.corp _ c.in_ok-judge_stamp.ensures.verdict c.in_err-judge_room.ensures)

pub returns-in_err-judge_run : goal.returns-in_err-judge_run
returns-in_err-judge_run c h =
    let p = err_from_is_err_and c.from_residual-in_err-judge_run.result c.from_residual-in_err-judge_run.ensures.1 in
    let commands = c.args.self.now.kept.commands in
    rw (p.1, p.2)
    (run_alone c.args.kit.now (kept_in c.args.self.now) c.args.stamp c.args.corp (Some _) c.in_ok-judge_stamp.ensures.verdict c.in_ok-judge_room.ensures
    (c.in_err-judge_run.ensures (players_of commands) (play c.args.kit.now commands) h.played.standing))

pub returns : goal.returns
returns c h =
    let commands = c.args.self.now.kept.commands in
    run_alone c.args.kit.now (kept_in c.args.self.now) c.args.stamp c.args.corp None c.in_ok-judge_stamp.ensures.verdict c.in_ok-judge_room.ensures
    (c.in_ok-judge_run.ensures (players_of commands) (play c.args.kit.now commands) h.played.standing)
