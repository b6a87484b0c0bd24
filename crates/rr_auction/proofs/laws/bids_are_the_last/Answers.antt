use Rattle.std.proofs.Common.{◌∙◌, ap}
use Rattle.rr_auction.specs.AuctionLaws.{bid, bid_told}
use Rattle.rr_rounds.specs.Bids.Bids.{bid_of}
use Rattle.rr_rounds.specs.Bids.Progress.{Progress}
use Rattle.rr_rounds.specs.Bids.ProgressLaws.{progress-none, progress-push}
use Rattle.rr_auction.proofs.Entries.{bids_once, no_bid_at_first}
use Rattle.rr_auction.proofs.Histories.{by_last}
use Rattle.rr_auction.proofs.laws.bids_are_the_last.Goals as goal

pub returns : goal.returns
returns c book p s low =
    by_last (bid_told p s) 0 (λ b. bid b p s) (ap (λ (a : Progress). bid_of a.bids p s) progress-none ∙ no_bid_at_first p s)
    (λ b e. ap (λ (a : Progress). bid_of a.bids p s) (progress-push b e) ∙ bids_once b e p s low) book
