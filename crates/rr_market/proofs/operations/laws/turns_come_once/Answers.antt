use Rattle.rr_market.proofs.OperationsLemmas.TurnLemmas.{turns_come_once}
use Rattle.rr_market.proofs.operations.laws.turns_come_once.Goals as goal

pub returns : goal.returns
returns c = turns_come_once
