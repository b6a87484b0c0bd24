use Rattle.rr_reading.proofs.LendingLemmas.LinkLemmas.{apart_walk}
use Rattle.rr_reading.proofs.OneAnswer.{one_whole}
use Rattle.rr_reading.proofs.lending.laws.chains_are_read_once.Goals as goal

pub returns-clause-once : goal.returns-clause-once
returns-clause-once _ = λ file count reached after other head stated pages others bytes more a b. one_whole file count reached head stated after other pages others bytes more a b

pub returns-clause-apart : goal.returns-clause-apart
returns-clause-apart _ = λ file count reached after head stated pages bytes fits is. apart_walk file count reached head pages fits is.walk
