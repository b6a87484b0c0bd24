use Rattle.rr_tables.proofs.RecordLemmas.Schedules.{none_is_turned_away, whatever_comes}
use Rattle.rr_tables.proofs.records.laws.prefix.Goals as goal

pub returns : goal.returns
returns c = record { sound = whatever_comes; opens = none_is_turned_away }
