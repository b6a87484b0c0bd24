use Rattle.rr_market.proofs.OperationsLemmas.SetLemmas.{sets_keep}
use Rattle.rr_market.proofs.operations.laws.sets_keep_their_length.Goals as goal

pub returns : goal.returns
returns c = sets_keep
