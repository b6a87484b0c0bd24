use Rattle.rr_tables.proofs.RecordLemmas.TakingLemmas.{files_are_exact, lead_to_one_world}
use Rattle.rr_tables.proofs.records.laws.records_lead_to_one_world.Goals as goal

pub returns : goal.returns
returns c = record { one = lead_to_one_world; exact = files_are_exact }
