use Rattle.rr_tables.proofs.RecordLemmas.Schedules.{are_worlds}
use Rattle.rr_tables.proofs.records.laws.tables_are_worlds.Goals as goal

pub returns : goal.returns
returns c = are_worlds
