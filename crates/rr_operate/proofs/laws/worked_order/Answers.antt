use Rattle.rr_operate.proofs.WorkedRows.{worked_order}
use Rattle.rr_operate.proofs.laws.worked_order.Goals as goal

pub returns : goal.returns
returns c = worked_order
