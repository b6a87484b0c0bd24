use Rattle.std.proofs.Common.{sym, ◌∙◌, ap}
use Rattle.rr_auction.specs.Rules.{turns_in}
use Rattle.rr_auction.proofs.due.turns.Goals as goal

pub returns-clause-book : goal.returns-clause-book
returns-clause-book c book h = c.turns_by.ensures ∙ ap turns_in (c.bidding.ensures ∙ sym h.bidding)
