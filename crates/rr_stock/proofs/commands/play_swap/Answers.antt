use Rattle.rr_desk.proofs.Taking.{shown}
use Rattle.rr_stock.proofs.Trades.{takes_swap}
use Rattle.rr_stock.proofs.commands.play_swap.Goals as goal

pub returns-clause-takes : goal.returns-clause-takes
returns-clause-takes c =
    takes_swap c.args.chart.now c.args.seat c.args.source c.par-par.result c.has_floated-floated.result
    c.args.desk.now c.push.new.self c.give_up_private.new.desk c.settle_corporation.new.desk
    (λ book h. c.par-par.ensures book (shown c.position.ensures h))
    (λ book h. c.has_floated-floated.ensures book (shown c.position-2.ensures h))
    c.in_ok-push.ensures.takes c.in_ok-give_up_private.ensures.takes c.in_ok-settle_corporation.ensures.takes
