use Rattle.std.proofs.lemmas.Result.{IfOk-weaker}
use Rattle.rr_game.specs.declared.history.replaying.Replayed.{Replayed}
use Rattle.rr_game.proofs.HistoryLemmas.Nearest.{plays_from_nearest, plays_from_opening}
use Rattle.rr_game.proofs.HistoryLemmas.Making.{shown_there}
use Rattle.rr_game.proofs.HistoryLemmas.Replays.{front_played}
use Rattle.rr_game.proofs.history.table.Table.game_at.Goals as goal

pub returns-in_ok-game-in-Some-clause-memory : goal.returns-in_ok-game-in-Some-clause-memory
returns-in_ok-game-in-Some-clause-memory c = λ play.
    let kit = c.args.kit.now in
    let kept = c.args.self.now.kept in
    c.play_on.ensures.memory
    (shown_there kit kept.commands kept.snapshots c.snapshots.result.now c.in-Some.snapshot.now c.in_ok-game-in-Some.game play.snapshots c.snapshots.ensures c.in-Some.ensures.0
    c.in_ok-game-in-Some.ensures.value)
    (front_played kit kept.commands c.args.count c.requires.some play.lawful)

pub returns-in-None-clause-memory : goal.returns-in-None-clause-memory
returns-in-None-clause-memory c = λ play.
    c.replay.ensures.memory (front_played c.args.kit.now c.args.self.now.kept.commands c.args.count c.requires.some play.lawful)

pub returns-in_ok-game-in-Some-clause-plays : goal.returns-in_ok-game-in-Some-clause-plays
returns-in_ok-game-in-Some-clause-plays c =
    let kept = c.args.self.now.kept in
    IfOk-weaker c.play_on.result _ _
    (λ (new : Replayed) counted.
    plays_from_nearest kept.snapshots c.snapshots.result.now c.args.count new.plays c.in-Some.snapshot.now c.in_ok-game-in-Some.game c.snapshots.ensures c.in-Some.ensures
    c.in_ok-game-in-Some.ensures.value counted)
    c.play_on.ensures.plays

pub returns-in-None-clause-plays : goal.returns-in-None-clause-plays
returns-in-None-clause-plays c =
    IfOk-weaker c.replay.result _ _
    (λ (new : Replayed) counted.
    plays_from_opening c.args.self.now.kept.snapshots c.snapshots.result.now c.args.count new.plays c.snapshots.ensures c.in-None.ensures counted)
    c.replay.ensures.plays
