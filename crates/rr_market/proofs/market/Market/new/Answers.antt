use Rattle.rr_market.specs.StateLaws.{empty_market}
use Rattle.rr_market.proofs.market.Market.new.Goals as goal

pub returns-clause-book : goal.returns-clause-book
returns-clause-book c = empty_market c.new.result
