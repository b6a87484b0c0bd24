use Rattle.std.proofs.Common.{arith}
use Rattle.rr_rounds.proofs.BidsLemmas.SmallBids.{row_in}
use Rattle.rr_rounds.proofs.bids.bidding.row_of.Goals as goal

pub returns-clause-bound : goal.returns-clause-bound
returns-clause-bound c = omega (arith, c.index.ensures, row_in c.args.private)
