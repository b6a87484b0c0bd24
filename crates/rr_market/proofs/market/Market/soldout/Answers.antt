use Rattle.std.proofs.Common.{Some}
use Rattle.rr_market.specs.Moves.{cell_above}
use Rattle.rr_market.specs.StateLaws.{moved}
use Rattle.rr_market.proofs.market.Market.soldout.Goals as goal

pub returns-clause-book : goal.returns-clause-book
returns-clause-book c = moved (cell_above c.args.chart.now) c.args.corp c.args.self.now c.mark.new.self (Some c.in_ok-cell.cell) c.in_ok-cell.ensures.shown c.mark.ensures.marked
