use Rattle.rr_desk.specs.Effects.{in_turn}
use Rattle.rr_desk.specs.Desk.{Takes}
use Rattle.std.proofs.Common.{map}
use Rattle.rr_operate.specs.Dividends.Dividends.{pays_seat, seating}
use Rattle.rr_operate.proofs.dividends.paying.pay_seats.Given as goal

abbrev pub invariant-loop-seat : goal.invariant-loop-seat
invariant-loop-seat l = Takes (in_turn (map (pays_seat l.corp l.revenue) (seating l.seat))) l.initial.desk l.desk
