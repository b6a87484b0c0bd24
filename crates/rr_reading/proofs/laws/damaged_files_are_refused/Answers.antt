use Rattle.rr_reading.proofs.Standing.{damaged_refused, all_refused}
use Rattle.rr_reading.proofs.laws.damaged_files_are_refused.Goals as goal

pub returns-clause-bytes : goal.returns-clause-bytes
returns-clause-bytes g _ = damaged_refused g.C.Codec.codec

pub returns-clause-all : goal.returns-clause-all
returns-clause-all g _ = λ names forms file. all_refused g.C.Codec.codec names file forms
