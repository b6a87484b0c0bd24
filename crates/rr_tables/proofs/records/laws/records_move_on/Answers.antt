use Rattle.rr_tables.proofs.RecordLemmas.TakingLemmas.{move_on}
use Rattle.rr_tables.proofs.records.laws.records_move_on.Goals as goal

pub returns : goal.returns
returns c = move_on
