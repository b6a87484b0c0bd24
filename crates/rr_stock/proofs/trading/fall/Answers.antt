use Rattle.rr_market.specs.Moves.{sale_marks}
use Rattle.rr_desk.proofs.Taking.{shown, takes_same}
use Rattle.rr_stock.specs.Effects.{marks}
use Rattle.rr_stock.proofs.trading.fall.Goals as goal

pub returns-clause-takes : goal.returns-clause-takes
returns-clause-takes c =
    takes_same (marks c.args.corp c.cell_after_sale-cell.result) (sale_marks c.args.chart.now c.args.count c.args.corp) c.args.desk.now c.mark_if.new.desk
    (λ book h. c.cell_after_sale-cell.ensures book (shown c.position.ensures h)) c.in_ok-mark_if.ensures.takes
