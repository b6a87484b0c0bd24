use Rattle.rr_desk.proofs.Taking.{shown}
use Rattle.rr_stock.proofs.Trades.{takes_par}
use Rattle.rr_stock.proofs.commands.play_par.Goals as goal

pub returns-clause-takes : goal.returns-clause-takes
returns-clause-takes c =
    takes_par c.args.chart.now c.args.seat c.args.corp c.args.price c.has_floated-floated.result c.args.desk.now c.push.new.self c.take_presidency.new.desk c.float_if_due.new.desk
    (λ book h. c.has_floated-floated.ensures book (shown c.position.ensures h)) c.in_ok-push.ensures.takes c.in_ok-take_presidency.ensures.takes c.in_ok-float_if_due.ensures.takes
