use Rattle.rr_tables.proofs.RecordLemmas.TakingLemmas.{lawful_are_taken, taken_are_lawful, unlawful_lead_nowhere}
use Rattle.rr_tables.proofs.records.laws.lawful_requests_are_taken.Goals as goal

pub returns : goal.returns
returns c = record { taken = lawful_are_taken; lawful = taken_are_lawful; unlawful = unlawful_lead_nowhere }
