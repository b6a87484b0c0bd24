use Rattle.rr_auction.proofs.TurnCounts.{par_owed}
use Rattle.rr_auction.proofs.laws.par_is_owed_by_the_buyer.Goals as goal

pub returns : goal.returns
returns c book = par_owed book
