use Rattle.rr_operate.proofs.WorkedRows.{worked_turn_end}
use Rattle.rr_operate.proofs.laws.worked_turn_end.Goals as goal

pub returns : goal.returns
returns c = worked_turn_end
