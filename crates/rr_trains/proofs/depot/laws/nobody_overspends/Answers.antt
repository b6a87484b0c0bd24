use Rattle.rr_trains.proofs.DepotLemmas.Spending.{nobody_overspends}
use Rattle.rr_trains.proofs.depot.laws.nobody_overspends.Goals as goal

pub returns : goal.returns
returns c = nobody_overspends
