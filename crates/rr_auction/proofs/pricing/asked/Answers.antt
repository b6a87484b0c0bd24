use Rattle.std.proofs.Common.{◌∙◌}
use Rattle.rr_auction.specs.Rules.{asked_in}
use Rattle.rr_auction.proofs.Standing.{by_views}
use Rattle.rr_auction.proofs.pricing.asked.Goals as goal

pub returns-clause-book : goal.returns-clause-book
returns-clause-book c book h = c.asked_by.ensures ∙ by_views (asked_in c.args.roster.now) book c.args.position.now c.books.result.now c.bidding.result.now c.books.ensures c.bidding.ensures h
