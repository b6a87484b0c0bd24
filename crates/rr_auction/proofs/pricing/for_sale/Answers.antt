use Rattle.std.proofs.Common.{◌∙◌, refl}
use Rattle.rr_rounds.specs.Bids.Unsold.{cheapest}
use Rattle.rr_auction.proofs.Standing.{by_views}
use Rattle.rr_auction.proofs.pricing.for_sale.Goals as goal

pub returns : goal.returns
returns c book h = c.cheapest.ensures ∙ by_views (λ H a. cheapest H) book c.args.position.now c.books.result.now c.args.position.now.bidding c.books.ensures refl h
