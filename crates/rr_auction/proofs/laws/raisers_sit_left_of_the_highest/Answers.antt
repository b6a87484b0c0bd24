use Rattle.rr_auction.proofs.Raisers.{sits_left}
use Rattle.rr_auction.proofs.laws.raisers_sit_left_of_the_highest.Goals as goal

pub returns : goal.returns
returns c book p s sale h = sits_left book p s sale h
