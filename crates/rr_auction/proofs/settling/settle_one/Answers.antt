use Rattle.std.proofs.Common.{[]}
use Rattle.rr_desk.specs.Effects.{in_turn}
use Rattle.rr_desk.proofs.Taking.{shown, takes_nothing, takes_same}
use Rattle.rr_auction.specs.Effects.{sale, settles}
use Rattle.rr_auction.proofs.WrittenOut.{settles_none, settles_sold}
use Rattle.rr_auction.proofs.settling.settle_one.Goals as goal

pub returns-in_ok-sell-in-Some-clause-takes : goal.returns-in_ok-sell-in-Some-clause-takes
returns-in_ok-sell-in-Some-clause-takes c =
    let p = c.args.private in
    takes_same (sale c.in-Some.seat p c.bid-amount.result) (settles p) c.args.desk.now c.sell.new.desk
    (λ book h.
    settles_sold p c.in-Some.seat c.bid-amount.result book
    (c.in-Some.ensures.value book (shown c.position.ensures h))
    (c.bid-amount.ensures.value book (shown c.position-in-Some.ensures h)))
    c.in_ok-sell-in-Some.ensures.takes

pub returns-in-None-clause-takes : goal.returns-in-None-clause-takes
returns-in-None-clause-takes c =
    takes_same (in_turn []) (settles c.args.private) c.args.desk.now c.args.desk.now
    (λ book h. settles_none c.args.private book (c.in-None.ensures.value book (shown c.position.ensures h)))
    (takes_nothing c.args.desk.now)
