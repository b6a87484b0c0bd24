use Rattle.std.proofs.Common.{◌≡◌, ℕ, ◌-◌, List, ap, subst, ◌∙◌, arith}
use Rattle.std.proofs.lemmas.Result.{IfOk-weaker, err_from_is_err_and}
use Rattle.rr_code.specs.declared.command.Command.{Command}
use Rattle.rr_game.specs.History.Playing.{ArePlayed}
use Rattle.rr_game.specs.declared.history.replaying.Replayed.{Replayed}
use Rattle.rr_game.proofs.HistoryLemmas.Plays.{opening_wants}
use Rattle.rr_game.proofs.HistoryLemmas.Replays.{begun_there, opened_whole}
use Rattle.rr_game.proofs.history.replaying.replay.Goals as goal

pub play_on-requires-clause-order : goal.play_on-requires-clause-order
play_on-requires-clause-order c = omega (arith, c.in_ok-game.ensures.played, c.requires.some)

pub returns-clause-game : goal.returns-clause-game
returns-clause-game c =
    let begun = begun_there c.args.kit.now c.args.kept.now.commands c.command.result c.in_ok-game.game c.command.ensures.value c.in_ok-game.ensures in
    IfOk-weaker c.play_on.result _ _ (λ (new : Replayed) goes_on. goes_on begun) c.play_on.ensures.game

pub returns-clause-memory : goal.returns-clause-memory
returns-clause-memory c =
    c.play_on.ensures.memory
    (begun_there c.args.kit.now c.args.kept.now.commands c.command.result c.in_ok-game.game c.command.ensures.value c.in_ok-game.ensures)

pub returns-in_err-game-clause-memory : goal.returns-in_err-game-clause-memory
returns-in_err-game-clause-memory c = λ lawful.
    let kit = c.args.kit.now in
    let p = err_from_is_err_and c.from_residual.result c.from_residual.ensures.1 in
    let whole = opened_whole c.args.kept.now.commands c.args.count c.command.result c.requires.some c.command.ensures.value in
    let there = subst (λ (cs : List Command). ∥ ArePlayed kit cs ∥₁) whole lawful in
    rw (p.1, p.2) (opening_wants kit c.command.result _ _ there c.in_err-game.ensures)

pub returns-clause-plays : goal.returns-clause-plays
returns-clause-plays c =
    let begun : c.in_ok-game.game.played ≡ 1 = c.in_ok-game.ensures.played in
    IfOk-weaker c.play_on.result _ _ (λ (new : Replayed) counted. counted ∙ ap (λ (n : ℕ). c.args.count - n) begun) c.play_on.ensures.plays
