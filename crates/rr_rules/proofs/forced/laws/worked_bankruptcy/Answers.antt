use Rattle.rr_rules.proofs.ForcedLemmas.WorkedRows.{worked_bankruptcy}
use Rattle.rr_rules.proofs.forced.laws.worked_bankruptcy.Goals as goal

pub returns : goal.returns
returns c = worked_bankruptcy
