use Rattle.rr_market.proofs.OperationsLemmas.WorkedRows as rows
use Rattle.rr_market.proofs.operations.laws.worked_round.Goals as goal

pub returns : goal.returns
returns c = rows.worked_round
