use Rattle.rr_log.proofs.OpeningLemmas.Refusals.{damaged_record_refused}
use Rattle.rr_log.proofs.opening.laws.damaged_records_are_refused.Goals as goal

pub returns : goal.returns
returns g _ = damaged_record_refused g.C.Codec.codec
