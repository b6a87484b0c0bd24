use Rattle.rr_tables.proofs.WholeLending.{tables_lend_all}
use Rattle.rr_tables.proofs.records.laws.tables_lend_their_snapshots.Goals as goal

pub returns : goal.returns
returns c = tables_lend_all
