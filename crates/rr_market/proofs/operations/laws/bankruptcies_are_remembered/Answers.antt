use Rattle.rr_market.proofs.OperationsLemmas.BankruptcyLemmas.{bankruptcies_remembered}
use Rattle.rr_market.proofs.operations.laws.bankruptcies_are_remembered.Goals as goal

pub returns : goal.returns
returns c = bankruptcies_remembered
