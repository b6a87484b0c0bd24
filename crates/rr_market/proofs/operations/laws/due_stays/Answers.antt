use Rattle.rr_market.proofs.OperationsLemmas.StayLemmas.{due_stays}
use Rattle.rr_market.proofs.operations.laws.due_stays.Goals as goal

pub returns : goal.returns
returns c = due_stays
