use Rattle.std.proofs.Common.{sym, ◌∙◌, ap}
use Rattle.rr_desk.specs.Incomes.{dollars}
use Rattle.rr_rounds.specs.Bids.Bids.{bid_of}
use Rattle.rr_rounds.specs.Bids.Progress.{Progress}
use Rattle.rr_auction.proofs.settling.bid.Goals as goal

pub returns-clause-value : goal.returns-clause-value
returns-clause-value c book h =
    c.bid_by.ensures.value ∙ ap (λ (a : Progress). dollars (bid_of a.bids c.args.private c.args.seat)) (c.bidding.ensures ∙ sym h.bidding)
