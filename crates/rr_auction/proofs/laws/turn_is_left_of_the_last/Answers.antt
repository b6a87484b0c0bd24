use Rattle.std.proofs.Common.{◌∙◌, ap}
use Rattle.rr_auction.specs.AuctionLaws.{first_seat, left_of_turn}
use Rattle.rr_rounds.specs.Bids.Progress.{Progress, progress}
use Rattle.rr_rounds.specs.Bids.ProgressLaws.{progress-none, progress-push}
use Rattle.rr_auction.proofs.Entries.{turn_once}
use Rattle.rr_auction.proofs.Histories.{by_last}
use Rattle.rr_auction.proofs.laws.turn_is_left_of_the_last.Goals as goal

pub returns : goal.returns
returns c book =
    by_last left_of_turn first_seat (λ b. (progress b).turn) (ap (λ (a : Progress). a.turn) progress-none)
    (λ b e. ap (λ (a : Progress). a.turn) (progress-push b e) ∙ turn_once b e) book
