use Rattle.rr_market.proofs.OperationsLemmas.TurnLemmas.{turns_of_their_round}
use Rattle.rr_market.proofs.operations.laws.turns_are_of_their_round.Goals as goal

pub returns : goal.returns
returns c = turns_of_their_round
