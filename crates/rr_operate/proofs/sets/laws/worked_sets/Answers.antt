use Rattle.rr_operate.proofs.SetsLemmas.WorkedRows.{worked_sets}
use Rattle.rr_operate.proofs.sets.laws.worked_sets.Goals as goal

pub returns : goal.returns
returns c = worked_sets
