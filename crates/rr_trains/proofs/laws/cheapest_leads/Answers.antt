use Rattle.rr_trains.specs.SaleLaws.{cheapest_leads}
use Rattle.rr_trains.proofs.laws.cheapest_leads.Goals as goal

pub returns : goal.returns
returns c = cheapest_leads
