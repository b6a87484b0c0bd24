use Rattle.rr_running.proofs.NetLemmas.CityLemmas.{own_cities_are_open}
use Rattle.rr_running.proofs.net.laws.own_cities_are_open.Goals as goal

pub returns : goal.returns
returns c = own_cities_are_open
