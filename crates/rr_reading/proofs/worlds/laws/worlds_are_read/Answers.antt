use Rattle.rr_reading.proofs.WorldLemmas.Exact.{forms_spelled}
use Rattle.rr_reading.proofs.worlds.laws.worlds_are_read.Goals as goal

pub returns-clause-chains : goal.returns-clause-chains
returns-clause-chains g _ = λ version bytes heads. (λ named. named, λ named. named)

pub returns-clause-forms : goal.returns-clause-forms
returns-clause-forms g _ = forms_spelled g.R.Rules.rules
