use Rattle.std.proofs.Common.{Bool, ap}
use Rattle.rr_desk.proofs.Taking.{shown, takes_same}
use Rattle.rr_auction.specs.Effects.{may_end, stock_begins}
use Rattle.rr_auction.proofs.settling.end.Goals as goal

pub returns-clause-takes : goal.returns-clause-takes
unfolding may_end
returns-clause-takes c =
    takes_same (stock_begins c.is_over-over.result) may_end c.args.desk.now c.begin_stock_if.new.desk
    (λ book h. ap (λ (over : Bool). stock_begins over book) (c.is_over-over.ensures book (shown c.position.ensures h)))
    c.in_ok-begin_stock_if.ensures.takes
