use Rattle.std.proofs.Common.{sym, ◌∙◌}
use Rattle.rr_desk.proofs.Taking.{shown}
use Rattle.rr_stock.proofs.Rises.{takes_no_rise, takes_rise}
use Rattle.rr_stock.proofs.ending.raise_if_sold_out.Goals as goal

pub returns-then-not-is_sold_out-clause-takes : goal.returns-then-not-is_sold_out-clause-takes
returns-then-not-is_sold_out-clause-takes c =
    takes_no_rise c.args.chart.now c.args.corp c.args.desk.now
    (λ book h. sym (c.is_sold_out.ensures book (shown c.position.ensures h)) ∙ c.if-not-is_sold_out.true)

pub returns-clause-takes : goal.returns-clause-takes
returns-clause-takes c =
    takes_rise c.args.chart.now c.args.corp c.cell_after_rise-cell.result c.args.desk.now c.mark_if.new.desk
    (λ book h. sym (c.is_sold_out.ensures book (shown c.position.ensures h)) ∙ c.if-not-is_sold_out.false)
    (λ book h. c.cell_after_rise-cell.ensures book (shown c.position-2.ensures h))
    c.in_ok-mark_if.ensures.takes
