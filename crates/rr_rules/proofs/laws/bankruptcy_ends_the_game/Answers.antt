use Rattle.rr_market.proofs.OperationsLemmas.BankruptcyLemmas.{bankruptcies_remembered}
use Rattle.rr_rules.proofs.Ending.{ends}
use Rattle.rr_rules.proofs.laws.bankruptcy_ends_the_game.Goals as goal

pub returns : goal.returns
returns c = ends bankruptcies_remembered
