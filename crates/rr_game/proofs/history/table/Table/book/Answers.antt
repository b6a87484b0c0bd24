use Rattle.std.proofs.Common.{true, refl, inr}
use Rattle.std.proofs.lemmas.Result.{IfOk-weaker}
use Rattle.rr_entries.specs.Words.{joined}
use Rattle.rr_game.specs.History.Tables.{kept_in}
use Rattle.rr_game.proofs.HistoryLemmas.TurnEntries.{by_result, no_verdict, entries_of_opening}
use Rattle.rr_game.proofs.history.table.Table.book.Goals as goal

pub returns-then-turn-eq0 : goal.returns-then-turn-eq0
returns-then-turn-eq0 c = λ play.
    let kit = c.args.kit.now in
    let table = c.args.self.now in
    let readable = no_verdict kit (kept_in table) c.args.turn true (c.if-not-is_readable.ensures.readable kit play) refl in
    by_result c.opening.result _ _
    (IfOk-weaker c.opening.result _ _
    (λ all is. (readable, entries_of_opening kit table.kept.commands table.game.players (joined all.items) c.args.turn c.if-turn-eq0.true play.played.opening play.played.players is))
    c.opening.ensures.entries)
    c.opening.ensures.memory
    (λ fault wants. inr (readable, wants))
