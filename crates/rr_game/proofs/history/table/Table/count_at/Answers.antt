use Rattle.std.proofs.Common.{ℕ, ◌<◌, ◌≤◌, length, take, sym, ap, ◌∙◌, arith}
use Rattle.rr_turns.specs.Turns.{ended_turns}
use Rattle.rr_game.specs.Turning.{ends_turn}
use Rattle.rr_game.proofs.TurnEnds.{count_told, front_told, turns_told}
use Rattle.std.proofs.lemmas.Option.{slice_get_within}
use Rattle.rr_game.proofs.HistoryLemmas.TurnEntries.{unended_front}
use Rattle.rr_game.proofs.history.table.Table.count_at.Goals as goal

pub returns-in-Some-clause-front : goal.returns-in-Some-clause-front
returns-in-Some-clause-front c = λ kit play.
    let table = c.args.self.now in
    let commands = table.kept.commands in
    let k = c.args.turn in
    let count = c.in-Some.count in
    let told = turns_told kit commands table.game play.played in
    let within : k < length table.game.ends = slice_get_within table.game.ends k count (sym c.in-Some.ensures.value) in
    let ended : k ≤ ended_turns (ends_turn kit) commands = omega (arith, within, told) in
    front_told kit commands table.game k play.played ended ∙ ap (λ (n : ℕ). take n commands) (count_told table.game.ends k count (sym c.in-Some.ensures.value))

pub returns-in-None-clause-front : goal.returns-in-None-clause-front
returns-in-None-clause-front c = λ kit play.
    let table = c.args.self.now in
    unended_front kit table.kept.commands table.game c.args.turn _ play.played (sym c.in-None.ensures.value) c.len.ensures.value
