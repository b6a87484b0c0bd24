use Rattle.std.proofs.Common.{◌∙◌, List, ap}
use Rattle.rr_roster.specs.declared.company.Corp.{Corp}
use Rattle.rr_desk.proofs.Taking.{shown, takes_same}
use Rattle.rr_stock.specs.Effects.{rises, rises_among}
use Rattle.rr_stock.proofs.ending.raise_sold_out.Goals as goal

pub returns-clause-takes : goal.returns-clause-takes
unfolding rises
returns-clause-takes c =
    let rows = c.args.chart.now in
    takes_same (rises_among rows c.as_slice.result.now) (rises rows) c.args.desk.now c.raise_among.new.desk
    (λ book h. ap (λ (cs : List Corp). rises_among rows cs book) (c.as_slice.ensures.corps ∙ c.order-order.ensures book (shown c.position.ensures h)))
    c.in_ok-raise_among.ensures.takes
