use Rattle.rr_operate.proofs.SetsLemmas.WorkedRows.{worked_tokens}
use Rattle.rr_operate.proofs.sets.laws.worked_tokens.Goals as goal

pub returns : goal.returns
returns c = worked_tokens
