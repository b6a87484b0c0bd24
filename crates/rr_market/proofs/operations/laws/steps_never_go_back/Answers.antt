use Rattle.rr_market.proofs.OperationsLemmas.StepLemmas.{steps_rise}
use Rattle.rr_market.proofs.operations.laws.steps_never_go_back.Goals as goal

pub returns : goal.returns
returns c = steps_rise
