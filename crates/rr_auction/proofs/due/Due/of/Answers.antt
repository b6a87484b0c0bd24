use Rattle.std.proofs.Common.{◌∙◌}
use Rattle.rr_auction.specs.Rules.{due_in}
use Rattle.rr_auction.proofs.Standing.{by_views}
use Rattle.rr_auction.proofs.due.Due.of.Goals as goal

pub returns-clause-book : goal.returns-clause-book
returns-clause-book c book h = c.due_by.ensures ∙ by_views due_in book c.args.position.now c.books.result.now c.bidding.result.now c.books.ensures c.bidding.ensures h
