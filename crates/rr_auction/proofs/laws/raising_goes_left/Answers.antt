use Rattle.rr_auction.proofs.Raisers.{goes_on_leaving, goes_on_raising}
use Rattle.rr_auction.proofs.laws.raising_goes_left.Goals as goal

pub returns : goal.returns
returns c book p s next sale h = (λ n over later. goes_on_raising book p s next n sale h over later, λ later. goes_on_leaving book p s next sale h later)
