use Rattle.std.proofs.Common.{refl, Ok}
use Rattle.std.proofs.lemmas.Result.{err_from_is_err_and}
use Rattle.rr_store.specs.World.{names}
use Rattle.rr_moderator.specs.Queries.{asked_answer, cash_answer, due_answer, holds_answer, limit_answer, order_answer, price_answer, privates_answer, stamp_answer, turns_answer, worth_answer}
use Rattle.rr_game.specs.History.Tables.{kept_in}
use Rattle.rr_store.specs.Holding.{held_of}
use Rattle.rr_moderator.proofs.Replies.{refuses_at, writes_at, written}
use Rattle.rr_moderator.proofs.Telling.{lacks_table_calm, told_words}
use Rattle.rr_moderator.proofs.answering.write_answer.Goals as goal

pub returns-in-Tables-clause-answer : goal.returns-in-Tables-clause-answer
returns-in-Tables-clause-answer g c = λ played.
    let tables = (held_of c.args.store.now).tables in
    rw c.in-Tables.is (written (Ok (names tables)) (names tables) c.write_names.new.reply refl c.write_names.ensures.text)

pub returns-in_err-table-in-Stamp-clause-answer : goal.returns-in_err-table-in-Stamp-clause-answer
returns-in_err-table-in-Stamp-clause-answer g c = λ played.
    let p = err_from_is_err_and c.from_residual.result c.from_residual.ensures.1 in
    rw (c.in-Stamp.is, p.1, p.2) (refuses_at (held_of c.args.store.now) c.in-Stamp.table stamp_answer _ c.requires.whole c.in_err-table-in-Stamp.ensures.found)

pub returns-in_ok-table-in-Stamp-clause-answer : goal.returns-in_ok-table-in-Stamp-clause-answer
returns-in_ok-table-in-Stamp-clause-answer g c = λ played.
    rw c.in-Stamp.is (writes_at (held_of c.args.store.now).tables c.in-Stamp.table stamp_answer (kept_in c.in_ok-table-in-Stamp.field-0.now) (Ok (tt {0})) c.write_stamp.new.reply c.in_ok-table-in-Stamp.ensures.found.1 (refl, c.write_stamp.ensures.text))

pub returns-in_err-table-in-Cash-clause-answer : goal.returns-in_err-table-in-Cash-clause-answer
returns-in_err-table-in-Cash-clause-answer g c = λ played.
    let p = err_from_is_err_and c.from_residual-in_err-table-in-Cash.result c.from_residual-in_err-table-in-Cash.ensures.1 in
    rw (c.in-Cash.is, p.1, p.2) (refuses_at (held_of c.args.store.now) c.in-Cash.table (cash_answer (held_of c.args.store.now).kit c.in-Cash.of) _ c.requires.whole c.in_err-table-in-Cash.ensures.found)

pub returns-in_ok-table-in-Cash-clause-answer : goal.returns-in_ok-table-in-Cash-clause-answer
returns-in_ok-table-in-Cash-clause-answer g c = λ played.
    rw (c.in-Cash.is, ← c.kit-in-Cash.ensures) (writes_at (held_of c.args.store.now).tables c.in-Cash.table (cash_answer c.kit-in-Cash.result.now c.in-Cash.of) (kept_in c.in_ok-table-in-Cash.field-0.now) c.write_cash.result c.write_cash.new.reply c.in_ok-table-in-Cash.ensures.found.1 (c.write_cash.ensures.answer (rw c.kit-in-Cash.ensures (c.in_ok-table-in-Cash.ensures.played played))))

pub returns-in_err-table-in-Limit-clause-answer : goal.returns-in_err-table-in-Limit-clause-answer
returns-in_err-table-in-Limit-clause-answer g c = λ played.
    let p = err_from_is_err_and c.from_residual-in_err-table-in-Limit.result c.from_residual-in_err-table-in-Limit.ensures.1 in
    rw (c.in-Limit.is, p.1, p.2) (refuses_at (held_of c.args.store.now) c.in-Limit.table (limit_answer (held_of c.args.store.now).kit) _ c.requires.whole c.in_err-table-in-Limit.ensures.found)

pub returns-in_ok-table-in-Limit-clause-answer : goal.returns-in_ok-table-in-Limit-clause-answer
returns-in_ok-table-in-Limit-clause-answer g c = λ played.
    rw c.in-Limit.is (writes_at (held_of c.args.store.now).tables c.in-Limit.table (limit_answer (held_of c.args.store.now).kit) (kept_in c.in_ok-table-in-Limit.field-0.now) (Ok (tt {0})) c.write_limit.new.reply c.in_ok-table-in-Limit.ensures.found.1 (refl, c.write_limit.ensures.text _ (c.in_ok-table-in-Limit.ensures.played played)))

pub returns-in_err-table-in-Turns-clause-answer : goal.returns-in_err-table-in-Turns-clause-answer
returns-in_err-table-in-Turns-clause-answer g c = λ played.
    let p = err_from_is_err_and c.from_residual-in_err-table-in-Turns.result c.from_residual-in_err-table-in-Turns.ensures.1 in
    rw (c.in-Turns.is, p.1, p.2) (refuses_at (held_of c.args.store.now) c.in-Turns.table (turns_answer (held_of c.args.store.now).kit) _ c.requires.whole c.in_err-table-in-Turns.ensures.found)

pub returns-in_ok-table-in-Turns-clause-answer : goal.returns-in_ok-table-in-Turns-clause-answer
returns-in_ok-table-in-Turns-clause-answer g c = λ played.
    rw c.in-Turns.is (writes_at (held_of c.args.store.now).tables c.in-Turns.table (turns_answer (held_of c.args.store.now).kit) (kept_in c.in_ok-table-in-Turns.field-0.now) (Ok (tt {0})) c.write_turns.new.reply c.in_ok-table-in-Turns.ensures.found.1 (refl, c.write_turns.ensures.text _ (c.in_ok-table-in-Turns.ensures.played played)))

pub returns-in_err-table-in-Due-clause-answer : goal.returns-in_err-table-in-Due-clause-answer
returns-in_err-table-in-Due-clause-answer g c = λ played.
    let p = err_from_is_err_and c.from_residual-in_err-table-in-Due.result c.from_residual-in_err-table-in-Due.ensures.1 in
    rw (c.in-Due.is, p.1, p.2) (refuses_at (held_of c.args.store.now) c.in-Due.table (due_answer (held_of c.args.store.now).kit) _ c.requires.whole c.in_err-table-in-Due.ensures.found)

pub returns-in_ok-table-in-Due-clause-answer : goal.returns-in_ok-table-in-Due-clause-answer
returns-in_ok-table-in-Due-clause-answer g c = λ played.
    rw (c.in-Due.is, ← c.kit.ensures) (writes_at (held_of c.args.store.now).tables c.in-Due.table (due_answer c.kit.result.now) (kept_in c.in_ok-table-in-Due.field-0.now) (Ok (tt {0})) c.write_table_due.new.reply c.in_ok-table-in-Due.ensures.found.1 (refl, c.write_table_due.ensures.text (rw c.kit.ensures (c.in_ok-table-in-Due.ensures.played played))))

pub returns-in_err-table-in-Asked-clause-answer : goal.returns-in_err-table-in-Asked-clause-answer
returns-in_err-table-in-Asked-clause-answer g c = λ played.
    let p = err_from_is_err_and c.from_residual-in_err-table-in-Asked.result c.from_residual-in_err-table-in-Asked.ensures.1 in
    rw (c.in-Asked.is, p.1, p.2) (refuses_at (held_of c.args.store.now) c.in-Asked.table (asked_answer (held_of c.args.store.now).kit) _ c.requires.whole c.in_err-table-in-Asked.ensures.found)

pub returns-in_ok-table-in-Asked-clause-answer : goal.returns-in_ok-table-in-Asked-clause-answer
returns-in_ok-table-in-Asked-clause-answer g c = λ played.
    rw (c.in-Asked.is, ← c.kit-in-Asked.ensures) (writes_at (held_of c.args.store.now).tables c.in-Asked.table (asked_answer c.kit-in-Asked.result.now) (kept_in c.in_ok-table-in-Asked.field-0.now) (Ok (tt {0})) c.write_cheapest.new.reply c.in_ok-table-in-Asked.ensures.found.1 (refl, c.write_cheapest.ensures.text (rw c.kit-in-Asked.ensures (c.in_ok-table-in-Asked.ensures.played played))))

pub returns-in_err-table-in-Privates-clause-answer : goal.returns-in_err-table-in-Privates-clause-answer
returns-in_err-table-in-Privates-clause-answer g c = λ played.
    let p = err_from_is_err_and c.from_residual-in_err-table-in-Privates.result c.from_residual-in_err-table-in-Privates.ensures.1 in
    rw (c.in-Privates.is, p.1, p.2) (refuses_at (held_of c.args.store.now) c.in-Privates.table (privates_answer (held_of c.args.store.now).kit c.in-Privates.of) _ c.requires.whole c.in_err-table-in-Privates.ensures.found)

pub returns-in_ok-table-in-Privates-clause-answer : goal.returns-in_ok-table-in-Privates-clause-answer
returns-in_ok-table-in-Privates-clause-answer g c = λ played.
    rw c.in-Privates.is (writes_at (held_of c.args.store.now).tables c.in-Privates.table (privates_answer (held_of c.args.store.now).kit c.in-Privates.of) (kept_in c.in_ok-table-in-Privates.field-0.now) c.write_owner.result c.write_owner.new.reply c.in_ok-table-in-Privates.ensures.found.1 (c.write_owner.ensures.answer _ (c.in_ok-table-in-Privates.ensures.played played)))

pub returns-in_err-table-in-Holds-clause-answer : goal.returns-in_err-table-in-Holds-clause-answer
returns-in_err-table-in-Holds-clause-answer g c = λ played.
    let p = err_from_is_err_and c.from_residual-in_err-table-in-Holds.result c.from_residual-in_err-table-in-Holds.ensures.1 in
    rw (c.in-Holds.is, p.1, p.2) (refuses_at (held_of c.args.store.now) c.in-Holds.table (holds_answer (held_of c.args.store.now).kit c.in-Holds.player c.in-Holds.corp) _ c.requires.whole c.in_err-table-in-Holds.ensures.found)

pub returns-in_ok-table-in-Holds-clause-answer : goal.returns-in_ok-table-in-Holds-clause-answer
returns-in_ok-table-in-Holds-clause-answer g c = λ played.
    rw c.in-Holds.is (writes_at (held_of c.args.store.now).tables c.in-Holds.table (holds_answer (held_of c.args.store.now).kit c.in-Holds.player c.in-Holds.corp) (kept_in c.in_ok-table-in-Holds.field-0.now) c.write_holds.result c.write_holds.new.reply c.in_ok-table-in-Holds.ensures.found.1 (c.write_holds.ensures.answer _ (c.in_ok-table-in-Holds.ensures.played played)))

pub returns-in_err-table-in-Price-clause-answer : goal.returns-in_err-table-in-Price-clause-answer
returns-in_err-table-in-Price-clause-answer g c = λ played.
    let p = err_from_is_err_and c.from_residual-in_err-table-in-Price.result c.from_residual-in_err-table-in-Price.ensures.1 in
    rw (c.in-Price.is, p.1, p.2) (refuses_at (held_of c.args.store.now) c.in-Price.table (price_answer (held_of c.args.store.now).kit c.in-Price.corp) _ c.requires.whole c.in_err-table-in-Price.ensures.found)

pub returns-in_ok-table-in-Price-clause-answer : goal.returns-in_ok-table-in-Price-clause-answer
returns-in_ok-table-in-Price-clause-answer g c = λ played.
    rw (c.in-Price.is, ← c.kit-in-Price.ensures) (writes_at (held_of c.args.store.now).tables c.in-Price.table (price_answer c.kit-in-Price.result.now c.in-Price.corp) (kept_in c.in_ok-table-in-Price.field-0.now) (Ok (tt {0})) c.write_price.new.reply c.in_ok-table-in-Price.ensures.found.1 (refl, c.write_price.ensures.text (rw c.kit-in-Price.ensures (c.in_ok-table-in-Price.ensures.played played))))

pub returns-in_err-table-in-Order-clause-answer : goal.returns-in_err-table-in-Order-clause-answer
returns-in_err-table-in-Order-clause-answer g c = λ played.
    let p = err_from_is_err_and c.from_residual-in_err-table-in-Order.result c.from_residual-in_err-table-in-Order.ensures.1 in
    rw (c.in-Order.is, p.1, p.2) (refuses_at (held_of c.args.store.now) c.in-Order.table (order_answer (held_of c.args.store.now).kit) _ c.requires.whole c.in_err-table-in-Order.ensures.found)

pub returns-in_ok-table-in-Order-clause-answer : goal.returns-in_ok-table-in-Order-clause-answer
returns-in_ok-table-in-Order-clause-answer g c = λ played.
    rw (c.in-Order.is, ← c.kit-in-Order.ensures) (writes_at (held_of c.args.store.now).tables c.in-Order.table (order_answer c.kit-in-Order.result.now) (kept_in c.in_ok-table-in-Order.field-0.now) (Ok (tt {0})) c.write_order.new.reply c.in_ok-table-in-Order.ensures.found.1 (refl, c.write_order.ensures.text (rw c.kit-in-Order.ensures (c.in_ok-table-in-Order.ensures.played played))))

pub returns-in_ok-table-in-Worth-clause-answer : goal.returns-in_ok-table-in-Worth-clause-answer
returns-in_ok-table-in-Worth-clause-answer g c = λ played.
    rw (c.in-Worth.is, ← c.kit-in-Worth.ensures) (writes_at (held_of c.args.store.now).tables c.in-Worth.table (worth_answer c.kit-in-Worth.result.now c.in-Worth.player) (kept_in c.in_ok-table-in-Worth.field-0.now) c.write_worth.result c.write_worth.new.reply c.in_ok-table-in-Worth.ensures.found.1 (c.write_worth.ensures.answer (rw c.kit-in-Worth.ensures (c.in_ok-table-in-Worth.ensures.played played))))

pub returns-in_err-table-in-Stamp-clause-may : goal.returns-in_err-table-in-Stamp-clause-may
returns-in_err-table-in-Stamp-clause-may g c =
    let p = err_from_is_err_and c.from_residual.result c.from_residual.ensures.1 in
    rw (p.1, p.2) (lacks_table_calm (held_of c.args.store.now) c.in-Stamp.table _ c.in_err-table-in-Stamp.ensures.found)

pub returns-in_err-table-in-Turns-clause-may : goal.returns-in_err-table-in-Turns-clause-may
returns-in_err-table-in-Turns-clause-may g c =
    let p = err_from_is_err_and c.from_residual-in_err-table-in-Turns.result c.from_residual-in_err-table-in-Turns.ensures.1 in
    rw (p.1, p.2) (lacks_table_calm (held_of c.args.store.now) c.in-Turns.table _ c.in_err-table-in-Turns.ensures.found)

pub returns-in_err-table-in-Due-clause-may : goal.returns-in_err-table-in-Due-clause-may
returns-in_err-table-in-Due-clause-may g c =
    let p = err_from_is_err_and c.from_residual-in_err-table-in-Due.result c.from_residual-in_err-table-in-Due.ensures.1 in
    rw (p.1, p.2) (lacks_table_calm (held_of c.args.store.now) c.in-Due.table _ c.in_err-table-in-Due.ensures.found)

pub returns-in_err-table-in-Cash-clause-may : goal.returns-in_err-table-in-Cash-clause-may
returns-in_err-table-in-Cash-clause-may g c =
    let p = err_from_is_err_and c.from_residual-in_err-table-in-Cash.result c.from_residual-in_err-table-in-Cash.ensures.1 in
    rw (p.1, p.2) (lacks_table_calm (held_of c.args.store.now) c.in-Cash.table _ c.in_err-table-in-Cash.ensures.found)

pub returns-in_err-table-in-Limit-clause-may : goal.returns-in_err-table-in-Limit-clause-may
returns-in_err-table-in-Limit-clause-may g c =
    let p = err_from_is_err_and c.from_residual-in_err-table-in-Limit.result c.from_residual-in_err-table-in-Limit.ensures.1 in
    rw (p.1, p.2) (lacks_table_calm (held_of c.args.store.now) c.in-Limit.table _ c.in_err-table-in-Limit.ensures.found)

pub returns-in_err-table-in-Asked-clause-may : goal.returns-in_err-table-in-Asked-clause-may
returns-in_err-table-in-Asked-clause-may g c =
    let p = err_from_is_err_and c.from_residual-in_err-table-in-Asked.result c.from_residual-in_err-table-in-Asked.ensures.1 in
    rw (p.1, p.2) (lacks_table_calm (held_of c.args.store.now) c.in-Asked.table _ c.in_err-table-in-Asked.ensures.found)

pub returns-in_err-table-in-Privates-clause-may : goal.returns-in_err-table-in-Privates-clause-may
returns-in_err-table-in-Privates-clause-may g c =
    let p = err_from_is_err_and c.from_residual-in_err-table-in-Privates.result c.from_residual-in_err-table-in-Privates.ensures.1 in
    rw (p.1, p.2) (lacks_table_calm (held_of c.args.store.now) c.in-Privates.table _ c.in_err-table-in-Privates.ensures.found)

pub returns-in_err-table-in-Holds-clause-may : goal.returns-in_err-table-in-Holds-clause-may
returns-in_err-table-in-Holds-clause-may g c =
    let p = err_from_is_err_and c.from_residual-in_err-table-in-Holds.result c.from_residual-in_err-table-in-Holds.ensures.1 in
    rw (p.1, p.2) (lacks_table_calm (held_of c.args.store.now) c.in-Holds.table _ c.in_err-table-in-Holds.ensures.found)

pub returns-in_err-table-in-Price-clause-may : goal.returns-in_err-table-in-Price-clause-may
returns-in_err-table-in-Price-clause-may g c =
    let p = err_from_is_err_and c.from_residual-in_err-table-in-Price.result c.from_residual-in_err-table-in-Price.ensures.1 in
    rw (p.1, p.2) (lacks_table_calm (held_of c.args.store.now) c.in-Price.table _ c.in_err-table-in-Price.ensures.found)

pub returns-in_err-table-in-Order-clause-may : goal.returns-in_err-table-in-Order-clause-may
returns-in_err-table-in-Order-clause-may g c =
    let p = err_from_is_err_and c.from_residual-in_err-table-in-Order.result c.from_residual-in_err-table-in-Order.ensures.1 in
    rw (p.1, p.2) (lacks_table_calm (held_of c.args.store.now) c.in-Order.table _ c.in_err-table-in-Order.ensures.found)

pub returns-in_err-table-in-Phase-clause-may : goal.returns-in_err-table-in-Phase-clause-may
returns-in_err-table-in-Phase-clause-may g c =
    let p = err_from_is_err_and c.from_residual-in_err-table-in-Phase.result c.from_residual-in_err-table-in-Phase.ensures.1 in
    rw (p.1, p.2) (lacks_table_calm (held_of c.args.store.now) c.in-Phase.table _ c.in_err-table-in-Phase.ensures.found)

pub returns-in_err-table-in-Trains-clause-may : goal.returns-in_err-table-in-Trains-clause-may
returns-in_err-table-in-Trains-clause-may g c =
    let p = err_from_is_err_and c.from_residual-in_err-table-in-Trains.result c.from_residual-in_err-table-in-Trains.ensures.1 in
    rw (p.1, p.2) (lacks_table_calm (held_of c.args.store.now) c.in-Trains.table _ c.in_err-table-in-Trains.ensures.found)

pub returns-in_err-table-in-Iou-clause-may : goal.returns-in_err-table-in-Iou-clause-may
returns-in_err-table-in-Iou-clause-may g c =
    let p = err_from_is_err_and c.from_residual-in_err-table-in-Iou.result c.from_residual-in_err-table-in-Iou.ensures.1 in
    rw (p.1, p.2) (lacks_table_calm (held_of c.args.store.now) c.in-Iou.table _ c.in_err-table-in-Iou.ensures.found)

pub returns-in_err-table-in-Worth-clause-may : goal.returns-in_err-table-in-Worth-clause-may
returns-in_err-table-in-Worth-clause-may g c =
    let p = err_from_is_err_and c.from_residual-in_err-table-in-Worth.result c.from_residual-in_err-table-in-Worth.ensures.1 in
    rw (p.1, p.2) (lacks_table_calm (held_of c.args.store.now) c.in-Worth.table _ c.in_err-table-in-Worth.ensures.found)

pub returns-in-Tables-clause-may : goal.returns-in-Tables-clause-may
returns-in-Tables-clause-may g c = told_words _ _ c.write_names.ensures.text
