use Rattle.std.proofs.Common.{◌≡◌, ℕ, ◌-◌, ◌≤◌, ◌++◌, take, sym, subst, arith}
use Rattle.std.proofs.lemmas.Result.{IfOk-weaker}
use Rattle.rr_entries.specs.Words.{joined}
use Rattle.rr_game.specs.Keeping.{IsGameOf}
use Rattle.rr_game.specs.Play.{play}
use Rattle.rr_game.specs.History.Tables.{IsPlayed}
use Rattle.rr_game.specs.History.TurnEntries.{turn_entries}
use Rattle.rr_game.proofs.HistoryLemmas.Replays.{front_played}
use Rattle.rr_game.proofs.HistoryLemmas.TurnEntries.{entries_of_turn, turn_order}
use Rattle.rr_game.proofs.history.table.Table.entries_of.Goals as goal

pub returns-clause-entries : goal.returns-clause-entries
returns-clause-entries c =
    let kit = c.args.kit.now in
    let commands = c.args.self.now.kept.commands in
    let k = c.args.turn in
    let begin = c.count_at-begin.result in
    let end = c.count_at-end.result in
    let game = c.in_ok-before.before.game in
    let at : game.played ≡ begin = c.in_ok-before.ensures.played in
    IfOk-weaker c.entries_up_to.result
    (λ all. game.played ≤ end → IsGameOf kit (take game.played commands) game
    → (play kit (take game.played commands)).book ++ joined all.items ≡ (play kit (take end commands)).book)
    (λ all. IsPlayed kit c.args.self.now → joined all.items ≡ turn_entries kit commands k)
    (λ all whole shown.
    let first = c.count_at-begin.ensures.front kit shown in
    let last = c.count_at-end.ensures.front kit shown in
    let order = turn_order kit commands k begin end c.requires.some first last c.count_at-begin.ensures.within c.count_at-end.ensures.within in
    let stands : IsGameOf kit (take game.played commands) game = subst (λ (n : ℕ). IsGameOf kit (take n commands) game) (sym at) (c.in_ok-before.ensures.game shown) in
    let Whole : ℕ → Type 0 = λ n. (play kit (take n commands)).book ++ joined all.items ≡ (play kit (take end commands)).book in
    entries_of_turn kit commands k begin end (joined all.items) c.requires.some first last (subst Whole at (whole (omega (arith, at, order)) stands)))
    c.entries_up_to.ensures.entries

pub returns-clause-memory : goal.returns-clause-memory
returns-clause-memory c = λ shown.
    let kit = c.args.kit.now in
    let commands = c.args.self.now.kept.commands in
    let begin = c.count_at-begin.result in
    let end = c.count_at-end.result in
    let game = c.in_ok-before.before.game in
    let first = c.count_at-begin.ensures.front kit shown in
    let last = c.count_at-end.ensures.front kit shown in
    let order = turn_order kit commands c.args.turn begin end c.requires.some first last c.count_at-begin.ensures.within c.count_at-end.ensures.within in
    let some = c.requires.some in
    let begun = c.requires.begun in
    let least = c.count_at-begin.ensures.some (omega (arith, some, begun)) in
    let stands : IsGameOf kit (take game.played commands) game =
    subst (λ (n : ℕ). IsGameOf kit (take n commands) game) (sym c.in_ok-before.ensures.played) (c.in_ok-before.ensures.game shown) in
    c.entries_up_to.ensures.memory stands (front_played kit commands end (omega (arith, least, order)) shown.lawful)
