use Rattle.std.proofs.Common.{sym, ap, subst, ◌∙◌}
use Rattle.std.proofs.lemmas.Result.{err_from_is_err_and}
use Rattle.rr_game.specs.History.Tables.{kept_in}
use Rattle.rr_desk.specs.Position.Position.{IsPositionOf, OnTable}
use Rattle.rr_rules.specs.State.{AtTable}
use Rattle.rr_store.specs.Holding.{held_of}
use Rattle.rr_store.specs.World.{table_named}
use Rattle.rr_moderator.specs.Best.{MayNotRun, book_of}
use Rattle.rr_moderator.proofs.BestLemmas.{found_run, search_lacks, words_short}
use Rattle.rr_moderator.proofs.Telling.{rules_calm, search_calm}
use Rattle.rr_moderator.proofs.searching.find_best.Goals as goal

pub returns-in_err-table-clause-found : goal.returns-in_err-table-clause-found
returns-in_err-table-clause-found g c =
    let p = err_from_is_err_and c.from_residual.result c.from_residual.ensures.1 in
    rw (p.1, p.2) (λ played. MayNotRun _ (c.in_err-table.ensures played))

pub returns-in_err-run-clause-found : goal.returns-in_err-run-clause-found
returns-in_err-run-clause-found g c =
    let p = err_from_is_err_and c.from_residual-in_err-run.result c.from_residual-in_err-run.ensures.1 in
    rw (p.1, p.2)
    (λ played.
    let held = held_of c.args.store.now in
    let table = kept_in c.in_ok-table.table.now in
    let there = c.in_ok-table.ensures played in
    let game = c.game.ensures.played held.kit there.1 in
    let Shown : OnTable → Type 0 = λ t. IsPositionOf (book_of held.kit table) t in
    let shown = subst Shown (sym (c.position-position.ensures ∙ ap (λ (s : AtTable). s.position) c.standing.ensures)) game.standing.position in
    search_lacks c.kit.result.now held.kit (table_named held.tables c.args.name.now) table c.args.stamp c.args.name.now c.args.corp c.room_behind-most.result _ c.kit.ensures
    there.0 there.2 c.room_behind-most.ensures.value (c.in_err-run.ensures.found (book_of held.kit table) shown))

pub returns-clause-short : goal.returns-clause-short
returns-clause-short g c =
    let run = c.in_ok-run.run' in
    words_short c.args.corp run.words run.sheet run.certificate c.room_behind-most.result _ c.in_ok-run.ensures.spelled c.in_ok-run.ensures.fits c.room_behind-most.ensures.whole

pub returns-clause-found : goal.returns-clause-found
returns-clause-found g c = λ played.
    let held = held_of c.args.store.now in
    let table = kept_in c.in_ok-table.table.now in
    let there = c.in_ok-table.ensures played in
    let game = c.game.ensures.played held.kit there.1 in
    let Shown : OnTable → Type 0 = λ t. IsPositionOf (book_of held.kit table) t in
    let shown = subst Shown (sym (c.position-position.ensures ∙ ap (λ (s : AtTable). s.position) c.standing.ensures)) game.standing.position in
    let found = c.in_ok-run.ensures.found (book_of held.kit table) shown in
    found_run c.kit.result.now held.kit (table_named held.tables c.args.name.now) table c.args.stamp c.args.name.now c.args.corp c.in_ok-run.run' c.room_behind-most.result c.kit.ensures
    there.0 there.2 c.in_ok-run.ensures.spelled c.in_ok-run.ensures.fits c.room_behind-most.ensures.whole found.0

pub returns-in_err-table-clause-calm : goal.returns-in_err-table-clause-calm
returns-in_err-table-clause-calm g c =
    let p = err_from_is_err_and c.from_residual.result c.from_residual.ensures.1 in
    rw (p.1, p.2) (rules_calm _)

pub returns-in_err-run-clause-calm : goal.returns-in_err-run-clause-calm
returns-in_err-run-clause-calm g c =
    let p = err_from_is_err_and c.from_residual-in_err-run.result c.from_residual-in_err-run.ensures.1 in
    rw (p.1, p.2) (search_calm _)
