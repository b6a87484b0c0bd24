use Rattle.std.proofs.Common.{◌≡◌, codes, None, ap, sym, subst, ◌∙◌}
use Rattle.rr_kit.specs.declared.kit.Kit.{Kit}
use Rattle.rr_entries.specs.Words.{book_words, joined}
use Rattle.rr_game.specs.declared.game.Game.{Game}
use Rattle.rr_game.specs.History.Tables.{IsPlayed, kept_in}
use Rattle.rr_game.specs.History.TurnEntries.{book_verdict, turn_entries}
use Rattle.rr_store.specs.Holding.{held_of}
use Rattle.rr_moderator.specs.Queries.{book_answer}
use Rattle.rr_moderator.proofs.BookLemmas.{book_answered, written_at}
use Rattle.std.proofs.lemmas.Result.{err_from_is_err_and}
use Rattle.rr_moderator.proofs.Telling.{answer_told, lacks_table_calm, memory_calm, told_again}
use Rattle.rr_moderator.proofs.answering.write_book.Goals as goal

pub returns-clause-meets : goal.returns-clause-meets
returns-clause-meets g c = λ played.
    let held = held_of c.args.store.now in
    let table = c.in_ok-table.table.now in
    let t = kept_in table in
    let turn = c.args.turn in
    let shown = c.in_ok-table.ensures.played played in
    let Shown : Kit → Type 0 = λ k. IsPlayed k table in
    let Told : Kit → Type 0 = λ k. (book_verdict k t turn ≡ None) × (joined c.in_ok-entries.entries.items ≡ turn_entries k t.commands turn) in
    let free = subst Told c.kit.ensures (c.in_ok-entries.ensures.entries (subst Shown (sym c.kit.ensures) shown)) in
    let players = c.game.result.now.players in
    let book = joined c.as_slice.result.now in
    written_at held.tables c.args.table.now (book_answer held.kit turn) t (book_words players book) _ c.in_ok-table.ensures.found.1
    (book_answered held.kit turn t players book free.0 (ap (λ (it : Game). it.players) c.game.ensures.value ∙ shown.played.players) (ap joined c.as_slice.ensures.value ∙ free.1))
    c.in_ok-write_turn.ensures

pub returns-in_err-table-clause-may : goal.returns-in_err-table-clause-may
returns-in_err-table-clause-may g c =
    let p = err_from_is_err_and c.from_residual.result c.from_residual.ensures.1 in
    rw (p.1, p.2) (lacks_table_calm (held_of c.args.store.now) c.args.table.now _ c.in_err-table.ensures.found)

pub returns-in_err-entries-clause-may : goal.returns-in_err-entries-clause-may
returns-in_err-entries-clause-may g c =
    let p = err_from_is_err_and c.from_residual-in_err-entries.result c.from_residual-in_err-entries.ensures.1 in
    rw (p.1, p.2) c.in_err-entries.ensures.calm

pub returns-in_err-write_turn-clause-may : goal.returns-in_err-write_turn-clause-may
returns-in_err-write_turn-clause-may g c =
    let p = err_from_is_err_and c.from_residual-in_err-write_turn.result c.from_residual-in_err-write_turn.ensures.1 in
    rw (p.1, p.2) memory_calm

pub returns-clause-may : goal.returns-clause-may
returns-clause-may g c = told_again _ _ (codes "\n") (answer_told _) c.in_ok-write_turn.ensures
