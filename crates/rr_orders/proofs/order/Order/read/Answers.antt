use Rattle.rr_orders.proofs.OrderLemmas.{order-found, order-only}
use Rattle.rr_orders.proofs.order.Order.read.Goals as goal

pub returns-clause-found : goal.returns-clause-found
returns-clause-found c = order-found _ _ _ c.of-words.ensures c.from_words.ensures.found

pub returns-clause-only : goal.returns-clause-only
returns-clause-only c = order-only _ _ _ c.of-words.ensures c.from_words.ensures.exact
