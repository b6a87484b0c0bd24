use Rattle.rr_checkpoint.proofs.Growing.{never_grows}
use Rattle.rr_checkpoint.proofs.open_file.OpenFile.advance.Goals as goal

pub returns-in_err-next-in-Shut-clause-grows : goal.returns-in_err-next-in-Shut-clause-grows
returns-in_err-next-in-Shut-clause-grows g c = λ honest world carries. never_grows (c.in_err-next-in-Shut.ensures.same_len honest world carries)

pub returns-in_ok-next-in-Shut-clause-grows : goal.returns-in_ok-next-in-Shut-clause-grows
returns-in_ok-next-in-Shut-clause-grows g c = λ honest world carries. never_grows (c.in_ok-next-in-Shut.ensures.same_len honest world carries)

pub returns-in_err-open-in-Filled-clause-grows : goal.returns-in_err-open-in-Filled-clause-grows
returns-in_err-open-in-Filled-clause-grows g c = λ honest world carries. never_grows (c.in_err-open-in-Filled.ensures.same_len honest world carries)

pub returns-in_ok-open-in-Filled-clause-grows : goal.returns-in_ok-open-in-Filled-clause-grows
returns-in_ok-open-in-Filled-clause-grows g c = λ honest world carries. never_grows (c.in_ok-open-in-Filled.ensures.same_len honest world carries)

pub returns-in_err-next-in-Shut-clause-same_len : goal.returns-in_err-next-in-Shut-clause-same_len
returns-in_err-next-in-Shut-clause-same_len g c = λ honest world carries few. c.in_err-next-in-Shut.ensures.same_len honest world carries

pub returns-in_ok-next-in-Shut-clause-same_len : goal.returns-in_ok-next-in-Shut-clause-same_len
returns-in_ok-next-in-Shut-clause-same_len g c = λ honest world carries few. c.in_ok-next-in-Shut.ensures.same_len honest world carries

pub returns-in_err-open-in-Filled-clause-same_len : goal.returns-in_err-open-in-Filled-clause-same_len
returns-in_err-open-in-Filled-clause-same_len g c = λ honest world carries few. c.in_err-open-in-Filled.ensures.same_len honest world carries

pub returns-in_ok-open-in-Filled-clause-same_len : goal.returns-in_ok-open-in-Filled-clause-same_len
returns-in_ok-open-in-Filled-clause-same_len g c = λ honest world carries few. c.in_ok-open-in-Filled.ensures.same_len honest world carries
