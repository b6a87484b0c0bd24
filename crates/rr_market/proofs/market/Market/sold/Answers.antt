use Rattle.std.proofs.Common.{Some}
use Rattle.rr_market.specs.Moves.{cell_after_sale}
use Rattle.rr_market.specs.StateLaws.{moved}
use Rattle.rr_market.proofs.market.Market.sold.Goals as goal

pub returns-clause-book : goal.returns-clause-book
returns-clause-book c = moved (cell_after_sale c.args.chart.now c.args.shares) c.args.corp c.args.self.now c.mark.new.self (Some c.in_ok-cell.cell) c.in_ok-cell.ensures.shown c.mark.ensures.marked
