use Rattle.std.proofs.Common.{◌∙◌, ap}
use Rattle.rr_auction.specs.Effects.{is_over}
use Rattle.rr_auction.proofs.due.is_over.Goals as goal

pub returns : goal.returns
returns c book h = c.is_stock.ensures ∙ ap is_over (c.of.ensures.book book h)
