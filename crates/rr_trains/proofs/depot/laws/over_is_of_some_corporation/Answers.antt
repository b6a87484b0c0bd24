use Rattle.rr_trains.proofs.DepotLemmas.AnyOver.{over_is_of_some_corporation}
use Rattle.rr_trains.proofs.depot.laws.over_is_of_some_corporation.Goals as goal

pub returns : goal.returns
returns c = over_is_of_some_corporation
