use Rattle.rr_rounds.proofs.BidsLemmas.SmallBids.{if_sole}
use Rattle.rr_rounds.proofs.bids.bidding.Bidding.sole_bidder.Goals as goal

pub returns-clause-seated : goal.returns-clause-seated
returns-clause-seated c = if_sole c.sole_bidder.result c.bids_on.result c.sole_bidder.ensures
