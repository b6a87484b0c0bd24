use Rattle.rr_tables.proofs.RecordLemmas.LentLemmas.{played_are_lent}
use Rattle.rr_tables.proofs.records.laws.played_tables_are_lent.Goals as goal

pub returns : goal.returns
returns c = played_are_lent
