use Rattle.rr_moderator.proofs.AloneLemmas.{is_alone}
use Rattle.rr_moderator.proofs.laws.alone.Goals as goal

pub returns : goal.returns
returns c = is_alone c.requests_have_one_verdict.ensures
