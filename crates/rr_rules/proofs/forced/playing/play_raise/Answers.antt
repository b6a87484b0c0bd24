use Rattle.rr_desk.proofs.Taking.{shown}
use Rattle.rr_rules.proofs.ForcedLemmas.Raises.{takes_raise}
use Rattle.rr_rules.proofs.forced.playing.play_raise.Goals as goal

pub returns-clause-takes : goal.returns-clause-takes
returns-clause-takes c =
    takes_raise c.args.chart.now c.args.seat c.args.corp c.args.count c.proceeds-amount.result
    c.args.desk.now c.push.new.self c.sell_shares.new.desk c.pay_seller.new.desk
    (λ book h. c.proceeds-amount.ensures book (shown c.position.ensures h))
    c.in_ok-push.ensures.takes c.in_ok-sell_shares.ensures.takes c.in_ok-pay_seller.ensures.takes
