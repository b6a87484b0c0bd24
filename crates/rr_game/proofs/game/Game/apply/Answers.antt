use Rattle.std.proofs.Common.{refl}
use Rattle.std.proofs.lemmas.Result.{err_from_is_err_and}
use Rattle.rr_game.specs.Play.{play, players_of}
use Rattle.rr_game.proofs.Judging.{command_lawful, command_refused, unnamed, unplayed}
use Rattle.rr_game.proofs.Playing.{added, stands, stepped}
use Rattle.rr_game.proofs.game.Game.apply.Goals as goal

pub returns-in_err-judge_end-clause-verdict : goal.returns-in_err-judge_end-clause-verdict
returns-in_err-judge_end-clause-verdict c accepted h =
    let p = err_from_is_err_and c.from_residual.result c.from_residual.ensures.1 in
    rw (p.1, p.2) (unplayed c.args.kit.now (players_of accepted) (play c.args.kit.now accepted) c.args.command.now _ (c.in_err-judge_end.ensures (play c.args.kit.now accepted) h.standing))

pub returns-in_err-act-clause-verdict : goal.returns-in_err-act-clause-verdict
returns-in_err-act-clause-verdict c accepted h =
    let p = err_from_is_err_and c.from_residual-in_err-act.result c.from_residual-in_err-act.ensures.1 in
    let state = play c.args.kit.now accepted in
    rw (p.1, p.2)
    (unnamed c.args.kit.now c.args.self.now.players (players_of accepted) state c.args.command.now _ h.players
    (c.in_ok-judge_end.ensures state h.standing) (c.in_err-act.ensures state h.standing))

pub returns-in_err-taken-clause-verdict : goal.returns-in_err-taken-clause-verdict
returns-in_err-taken-clause-verdict c accepted h =
    let p = err_from_is_err_and c.from_residual-in_err-taken.result c.from_residual-in_err-taken.ensures.1 in
    let state = play c.args.kit.now accepted in
    rw (p.1, p.2)
    (command_refused c.args.kit.now c.args.self.now.players (players_of accepted) state c.args.command.now c.in_ok-act.act _ h.players
    c.in_ok-act.ensures.0 (c.in_ok-judge_end.ensures state h.standing) (c.in_err-taken.ensures.verdict state h.standing))

pub returns-clause-verdict : goal.returns-clause-verdict
returns-clause-verdict c accepted h =
    let state = play c.args.kit.now accepted in
    command_lawful c.args.kit.now c.args.self.now.players (players_of accepted) state c.args.command.now c.in_ok-act.act h.players
    c.in_ok-act.ensures.0 (c.in_ok-judge_end.ensures state h.standing) (c.in_ok-taken.ensures.verdict state h.standing)

pub returns-clause-game : goal.returns-clause-game
returns-clause-game c accepted h =
    let kit = c.args.kit.now in
    let standing =
    stands kit accepted c.args.command.now c.in_ok-act.act c.args.self.now c.in_ok-taken.taken.standing h c.in_ok-act.ensures.0
    (c.in_ok-taken.ensures.standing _ h.standing) in
    stepped kit accepted c.args.command.now c.args.self.now _ h refl refl standing (c.ends_after-ends.ensures.ends kit accepted h standing)

pub returns-clause-entries : goal.returns-clause-entries
returns-clause-entries c accepted h =
    added c.args.kit.now accepted c.args.command.now c.in_ok-act.act c.args.self.now _ h c.in_ok-act.ensures.0
    (c.in_ok-taken.ensures.entries (play c.args.kit.now accepted) h.standing)

pub returns-in_err-judge_end-clause-judged : goal.returns-in_err-judge_end-clause-judged
returns-in_err-judge_end-clause-judged c state h =
    let p = err_from_is_err_and c.from_residual.result c.from_residual.ensures.1 in
    rw (p.1, p.2) (unplayed c.args.kit.now c.args.self.now.players state c.args.command.now _ (c.in_err-judge_end.ensures state h))

pub returns-in_err-act-clause-judged : goal.returns-in_err-act-clause-judged
returns-in_err-act-clause-judged c state h =
    let p = err_from_is_err_and c.from_residual-in_err-act.result c.from_residual-in_err-act.ensures.1 in
    let players = c.args.self.now.players in
    rw (p.1, p.2)
    (unnamed c.args.kit.now players players state c.args.command.now _ refl (c.in_ok-judge_end.ensures state h) (c.in_err-act.ensures state h))

pub returns-in_err-taken-clause-judged : goal.returns-in_err-taken-clause-judged
returns-in_err-taken-clause-judged c state h =
    let p = err_from_is_err_and c.from_residual-in_err-taken.result c.from_residual-in_err-taken.ensures.1 in
    let players = c.args.self.now.players in
    rw (p.1, p.2)
    (command_refused c.args.kit.now players players state c.args.command.now c.in_ok-act.act _ refl
    c.in_ok-act.ensures.0 (c.in_ok-judge_end.ensures state h) (c.in_err-taken.ensures.verdict state h))

pub returns-clause-judged : goal.returns-clause-judged
returns-clause-judged c state h =
    let players = c.args.self.now.players in
    command_lawful c.args.kit.now players players state c.args.command.now c.in_ok-act.act refl
    c.in_ok-act.ensures.0 (c.in_ok-judge_end.ensures state h) (c.in_ok-taken.ensures.verdict state h)
