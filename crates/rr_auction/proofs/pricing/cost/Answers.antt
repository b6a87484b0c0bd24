use Rattle.std.proofs.Common.{sym, ◌∙◌, ap}
use Rattle.rr_desk.specs.Incomes.{dollars}
use Rattle.rr_rounds.specs.Bids.Progress.{Progress}
use Rattle.rr_auction.specs.Rules.{price}
use Rattle.rr_auction.proofs.pricing.cost.Goals as goal

pub returns-clause-value : goal.returns-clause-value
returns-clause-value c book h =
    c.cost_by.ensures.value ∙ ap (λ (a : Progress). dollars (price c.args.roster.now a.falls c.args.private)) (c.bidding.ensures ∙ sym h.bidding)
