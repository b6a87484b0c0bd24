use Rattle.rr_desk.proofs.Taking.{shown}
use Rattle.rr_stock.proofs.Trades.{takes_purchase}
use Rattle.rr_stock.proofs.commands.play_purchase.Goals as goal

pub returns-clause-takes : goal.returns-clause-takes
returns-clause-takes c =
    takes_purchase c.args.chart.now c.args.seat c.args.corp c.args.source c.share_price-price.result c.par-par.result c.has_floated-floated.result
    c.args.desk.now c.push.new.self c.get_share.new.desk c.settle_corporation.new.desk
    (λ book h. c.share_price-price.ensures.book book (shown c.position.ensures h))
    (λ book h. c.par-par.ensures book (shown c.position-2.ensures h))
    (λ book h. c.has_floated-floated.ensures book (shown c.position-3.ensures h))
    c.in_ok-push.ensures.takes c.in_ok-get_share.ensures.takes c.in_ok-settle_corporation.ensures.takes
