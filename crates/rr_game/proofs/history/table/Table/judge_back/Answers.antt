use Rattle.std.proofs.Common.{ℕ, ◌≤◌, true, false, inl, inr, take, Option, IfSome, refl, sym, ap, subst, ◌∙◌, arith}
use Rattle.std.proofs.lemmas.Result.{err_from_is_err_and}
use Rattle.rr_turns.specs.Turns.{ended_turns}
use Rattle.rr_game.specs.Turning.{ends_turn}
use Rattle.rr_game.specs.History.Snapshots.{PlaysOn}
use Rattle.rr_game.specs.History.Tables.{kept_in}
use Rattle.rr_game.proofs.TurnEnds.{count_told, front_told, turns_told}
use Rattle.rr_game.proofs.HistoryLemmas.Changes.{back_change}
use Rattle.rr_game.proofs.HistoryLemmas.Judging.{back_wants}
use Rattle.rr_game.proofs.HistoryLemmas.Making.{turn_named}
use Rattle.rr_game.proofs.HistoryLemmas.Replays.{front_played}
use Rattle.rr_game.proofs.HistoryLemmas.Seeing.{turn_seen}
use Rattle.rr_game.proofs.history.table.Table.judge_back.Goals as goal

pub returns-in_err-game-clause-verdict : goal.returns-in_err-game-clause-verdict
returns-in_err-game-clause-verdict c = λ play.
    let kit = c.args.kit.now in
    let table = c.args.self.now in
    let p = err_from_is_err_and c.from_residual.result c.from_residual.ensures.1 in
    rw (p.1, p.2) (back_wants kit (kept_in table) c.args.turn _ (c.if-not-keeps.ensures.kept kit play) (c.in_err-game.ensures.memory play))

pub returns-clause-change : goal.returns-clause-change
returns-clause-change c = λ play.
    let kit = c.args.kit.now in
    let table = c.args.self.now in
    let commands = table.kept.commands in
    let k = c.args.turn in
    let stay = c.unwrap-stay.result in
    let new = c.in_ok-game.field-0.game in
    let Few : Option ℕ → Type 0 = λ o. IfSome o (λ count. (1 ≤ count) × (count ≤ table.game.played)) in
    let few = subst Few c.unwrap-stay.ensures c.played_at.ensures.few in
    let within = c.if-not-keeps.ensures.ended refl in
    let told = turns_told kit commands table.game play.played in
    let ended : k ≤ ended_turns (ends_turn kit) commands = omega (arith, within, told) in
    let count = count_told table.game.ends k stay (sym c.played_at.ensures.value ∙ c.unwrap-stay.ensures) in
    let front = front_told kit commands table.game k play.played ended ∙ ap (λ (n : ℕ). take n commands) count in
    back_change kit (kept_in table) k stay c.in_ok-game.field-0.plays new (sym front) (record {
      lawful = front_played kit commands stay few.0 play.lawful;
      played = c.in_ok-game.ensures.game play;
    })

pub returns-clause-shows : goal.returns-clause-shows
returns-clause-shows c =
    let table = c.args.self.now in
    let k = c.args.turn in
    record {
      turn = turn_named table k c.if-not-keeps.ensures.value;
      stay = sym (count_told table.game.ends k c.unwrap-stay.result (sym c.played_at.ensures.value ∙ c.unwrap-stay.ensures));
      least = refl;
      snapshot = refl;
    }

pub returns-clause-plays : goal.returns-clause-plays
returns-clause-plays c =
    let table = c.args.self.now in
    subst (λ (count : ℕ). PlaysOn table.kept.snapshots count c.in_ok-game.field-0.plays)
    (sym (count_told table.game.ends c.args.turn c.unwrap-stay.result (sym c.played_at.ensures.value ∙ c.unwrap-stay.ensures))) c.in_ok-game.ensures.plays

pub returns-then-not-keeps-clause-judged : goal.returns-then-not-keeps-clause-judged
returns-then-not-keeps-clause-judged c = λ seen is. inl (turn_seen c.args.self.now seen is c.args.turn false c.if-not-keeps.ensures.value)

pub returns-in_err-game-clause-judged : goal.returns-in_err-game-clause-judged
returns-in_err-game-clause-judged c = λ seen is.
    let p = err_from_is_err_and c.from_residual.result c.from_residual.ensures.1 in
    rw p.1 (inr (turn_seen c.args.self.now seen is c.args.turn true c.if-not-keeps.ensures.value))

pub returns-clause-judged : goal.returns-clause-judged
returns-clause-judged c = λ seen is. turn_seen c.args.self.now seen is c.args.turn true c.if-not-keeps.ensures.value
