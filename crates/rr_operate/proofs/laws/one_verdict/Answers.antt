use Rattle.rr_operate.proofs.OneVerdict.{one_verdict}
use Rattle.rr_operate.proofs.laws.one_verdict.Goals as goal

pub returns : goal.returns
returns c = one_verdict c.one_verdict_on_a_run.ensures.alone c.one_verdict_on_a_run.ensures.best
