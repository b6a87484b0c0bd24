use Rattle.rr_market.proofs.OperationsLemmas.DebtLemmas.{debts_remembered}
use Rattle.rr_market.proofs.operations.laws.debts_are_remembered.Goals as goal

pub returns : goal.returns
returns c = debts_remembered
