use Rattle.rr_trains.proofs.DepotLemmas.InOrder.{privates_go_at_fair_prices}
use Rattle.rr_trains.proofs.depot.laws.privates_go_at_fair_prices.Goals as goal

pub returns : goal.returns
returns c = privates_go_at_fair_prices
