use Rattle.rr_trains.proofs.DepotLemmas.WithinLimit.{purchases_keep_the_limit}
use Rattle.rr_trains.proofs.depot.laws.purchases_keep_the_limit.Goals as goal

pub returns : goal.returns
returns c = purchases_keep_the_limit
