use Rattle.rr_rules.proofs.ForcedLemmas.WorkedRows.{worked_raise}
use Rattle.rr_rules.proofs.forced.laws.worked_raise.Goals as goal

pub returns : goal.returns
returns c = worked_raise
