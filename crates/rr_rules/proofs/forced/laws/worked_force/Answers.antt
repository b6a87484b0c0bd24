use Rattle.rr_rules.proofs.ForcedLemmas.WorkedRows.{worked_force}
use Rattle.rr_rules.proofs.forced.laws.worked_force.Goals as goal

pub returns : goal.returns
returns c = worked_force
