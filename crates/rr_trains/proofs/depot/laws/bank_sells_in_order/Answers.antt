use Rattle.rr_trains.proofs.DepotLemmas.InOrder.{bank_sells_in_order}
use Rattle.rr_trains.proofs.depot.laws.bank_sells_in_order.Goals as goal

pub returns : goal.returns
returns c = bank_sells_in_order
