use Rattle.rr_operate.proofs.SetsLemmas.PassLemmas.{rounds_pass}
use Rattle.rr_operate.proofs.sets.laws.rounds_pass.Goals as goal

pub returns : goal.returns
returns c = rounds_pass
