use Rattle.rr_rules.proofs.ForcedLemmas.WorkedRows.{worked_presidency}
use Rattle.rr_rules.proofs.forced.laws.worked_presidency.Goals as goal

pub returns : goal.returns
returns c = worked_presidency
