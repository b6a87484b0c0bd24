use Rattle.std.proofs.Common.{arith}
use Rattle.rr_rounds.specs.Bids.Bids.{tied_up}
use Rattle.rr_auction.proofs.judging.tied_up.Goals as goal

pub returns-clause-value : goal.returns-clause-value
unfolding tied_up
returns-clause-value c = omega arith
