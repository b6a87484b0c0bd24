use Rattle.rr_desk.proofs.Taking.{shown}
use Rattle.rr_stock.proofs.Trades.{takes_done}
use Rattle.rr_stock.proofs.commands.play_done.Goals as goal

pub returns-clause-takes : goal.returns-clause-takes
returns-clause-takes c =
    takes_done c.args.chart.now c.args.seat c.ends_with_done-ends.result c.args.desk.now c.push.new.self c.end_if.new.desk
    (λ book h. c.ends_with_done-ends.ensures book (shown c.position.ensures h)) c.in_ok-push.ensures.takes c.in_ok-end_if.ensures.takes
