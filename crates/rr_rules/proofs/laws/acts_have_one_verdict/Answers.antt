use Rattle.rr_rules.proofs.Judging.{act_one}
use Rattle.rr_rules.proofs.laws.acts_have_one_verdict.Goals as goal

pub returns : goal.returns
returns c = λ kit state act. act_one c.one_verdict.ensures kit state act
