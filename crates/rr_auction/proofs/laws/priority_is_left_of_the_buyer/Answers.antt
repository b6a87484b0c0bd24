use Rattle.std.proofs.Common.{◌∙◌, ap}
use Rattle.rr_auction.specs.AuctionLaws.{first_seat, left_of_buyer}
use Rattle.rr_rounds.specs.Bids.Progress.{Progress, progress}
use Rattle.rr_rounds.specs.Bids.ProgressLaws.{progress-none, progress-push}
use Rattle.rr_auction.proofs.Entries.{priority_once}
use Rattle.rr_auction.proofs.Histories.{by_last}
use Rattle.rr_auction.proofs.laws.priority_is_left_of_the_buyer.Goals as goal

pub returns : goal.returns
returns c book =
    by_last left_of_buyer first_seat (λ b. (progress b).priority) (ap (λ (a : Progress). a.priority) progress-none)
    (λ b e. ap (λ (a : Progress). a.priority) (progress-push b e) ∙ priority_once b e) book
