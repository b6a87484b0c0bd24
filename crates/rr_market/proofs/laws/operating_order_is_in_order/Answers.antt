use Rattle.rr_market.specs.Marks.{mark_of, arrival}
use Rattle.rr_market.proofs.SortLemmas.{order_by-in_order}
use Rattle.rr_market.proofs.laws.operating_order_is_in_order.Goals as goal

pub returns : goal.returns
returns c rows book = order_by-in_order rows (mark_of book) (arrival book)
