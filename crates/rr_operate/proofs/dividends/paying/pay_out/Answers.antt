use Rattle.std.proofs.Common.{[], ◌∷◌}
use Rattle.rr_books.specs.declared.acts.Act.TheVariants as A
use Rattle.rr_books.specs.declared.parties.Party.TheVariants as P
use Rattle.rr_books.specs.declared.parties.Place.TheVariants as L
use Rattle.rr_market.specs.Moves.{dividend_marks}
use Rattle.rr_desk.proofs.Taking.{takes_nothing, takes_then}
use Rattle.rr_operate.specs.Dividends.Dividends.{pays_for, pays_out, pays_seats, says}
use Rattle.rr_operate.proofs.dividends.paying.pay_out.Goals as goal

pub returns-clause-takes : goal.returns-clause-takes
unfolding pays_out
returns-clause-takes c =
    let corp = c.args.corp in
    let revenue = c.args.revenue in
    let moves = dividend_marks c.args.chart.now corp in
    let pool = pays_for corp revenue L.Pool (P.Corp corp) in
    takes_then (says (A.PayOut corp)) (pays_seats corp revenue ∷ pool ∷ moves ∷ []) c.args.desk.now c.push.new.self c.move_right.new.desk c.in_ok-push.ensures.takes
    (takes_then (pays_seats corp revenue) (pool ∷ moves ∷ []) c.push.new.self c.pay_seats.new.desk c.move_right.new.desk c.in_ok-pay_seats.ensures.takes
    (takes_then pool (moves ∷ []) c.pay_seats.new.desk c.pay_for.new.desk c.move_right.new.desk c.in_ok-pay_for.ensures.takes
    (takes_then moves [] c.pay_for.new.desk c.move_right.new.desk c.move_right.new.desk c.in_ok-move_right.ensures.takes (takes_nothing c.move_right.new.desk))))
