use Rattle.std.specs.Prelude.{◌≤◌, Bool, true, false, cond, refl}
use Rattle.std.proofs.Common.{arith}
use Rattle.rr_books.specs.declared.entries.Entry.TheVariants as E
use Rattle.rr_books.specs.declared.entries.Marker.TheVariants as M
use Rattle.rr_rounds.specs.Round.{begins_stock_round, ends_round, ends_turn}
use Rattle.rr_stock.specs.Situation.{situation_of}
use Rattle.rr_stock.proofs.TurnLemmas.{Spares, ending_counted, row_counted, sale_free}
use Rattle.rr_stock.proofs.laws.one_turn_at_most.Goals as goal

turns_spare : Spares ends_turn
turns_spare = record {
  pay = λ from to amount. refl;
  move = λ cert to h. refl;
  mark = λ c cell. refl;
  floats = λ c. refl;
}

rounds_spare : Spares begins_stock_round
rounds_spare = record {
  pay = λ from to amount. refl;
  move = λ cert to h. refl;
  mark = λ c cell. refl;
  floats = λ c. refl;
}

one_at_most : (b : Bool) → cond b 1 0 ≤ 1
one_at_most true = omega arith
one_at_most false = omega arith

pub returns : goal.returns
returns c rows book act =
    let t = situation_of rows book in
    let turn = row_counted ends_turn turns_spare rows t act book 0 (λ s corp n e. sale_free ends_turn turns_spare corp s n (λ d. refl)) (λ s e later. ending_counted ends_turn turns_spare rows (ends_round t.progress) later) in
    let begun =
    row_counted begins_stock_round rounds_spare rows t act book 0 (λ s corp n e. sale_free begins_stock_round rounds_spare corp s n (λ d. refl))
    (λ s e later. ending_counted begins_stock_round rounds_spare rows (ends_round t.progress) later) in
    let one = one_at_most (ends_turn (E.Step (M.Act act))) in
    (omega arith, omega arith)
