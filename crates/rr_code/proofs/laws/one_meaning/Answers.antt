use Rattle.rr_code.proofs.TextLemmas.{command-unique, line-unique, record-unique, request-unique}
use Rattle.rr_code.proofs.laws.one_meaning.Goals as goal

pub returns-clause-command : goal.returns-clause-command
returns-clause-command _ = command-unique

pub returns-clause-request : goal.returns-clause-request
returns-clause-request _ = request-unique

pub returns-clause-record_table : goal.returns-clause-record_table
returns-clause-record_table _ = λ table other q r bytes first second. (record-unique table other q r bytes first second).0

pub returns-clause-record_request : goal.returns-clause-record_request
returns-clause-record_request _ = λ table other q r bytes first second. (record-unique table other q r bytes first second).1

pub returns-clause-line : goal.returns-clause-line
returns-clause-line _ = line-unique
