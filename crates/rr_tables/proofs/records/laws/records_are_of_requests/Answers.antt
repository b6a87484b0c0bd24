use Rattle.rr_tables.proofs.RecordLemmas.TakingLemmas.{records_are_of_requests as of_requests, requests_are_replayed}
use Rattle.rr_tables.proofs.records.laws.records_are_of_requests.Goals as goal

pub returns : goal.returns
returns c = record { of_requests = of_requests; replayed = requests_are_replayed }
