use Rattle.rr_operate.proofs.WorkedRows.{worked_run}
use Rattle.rr_operate.proofs.laws.worked_run.Goals as goal

pub returns : goal.returns
returns c = worked_run
