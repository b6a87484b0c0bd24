use Rattle.rr_laws.proofs.EachVerdict.{each_request_has}
use Rattle.rr_laws.proofs.each_request_has_a_verdict.Goals as goal

pub returns : goal.returns
returns c = record { some = each_request_has; one = c.requests_have_one_verdict.ensures }
