use Rattle.std.proofs.Common.{◌≡◌, sym, ◌∙◌, subst, arith}
use Rattle.rr_books.specs.State.{State, IsStateOf}
use Rattle.rr_operate.proofs.DividendsLemmas.Seats.{takes_seat, takes_seats}
use Rattle.rr_operate.proofs.dividends.paying.pay_seats.Goals as goal

pub loop-seat-preserved : goal.loop-seat-preserved
loop-seat-preserved c =
    takes_seat c.args.corp c.args.revenue c.loop-seat.seat c.args.desk.now c.loop-seat.desk c.pay_for.new.desk
    c.loop-seat.invariant c.in_ok-pay_for.ensures.takes

pub returns-clause-takes : goal.returns-clause-takes
returns-clause-takes c =
    let all : c.loop-seat.seat ≡ c.players-players.result = omega arith in
    takes_seats c.args.corp c.args.revenue c.loop-seat.seat c.args.desk.now c.loop-seat.desk
    (λ book h. all ∙ c.players-players.ensures.book book (subst (λ (s : State). IsStateOf book s) (sym c.books.ensures) h.books))
    c.loop-seat.invariant
