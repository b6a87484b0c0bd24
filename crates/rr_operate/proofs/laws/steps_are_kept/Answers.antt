use Rattle.rr_operate.proofs.InOrder.{steps_are_kept}
use Rattle.rr_operate.proofs.laws.steps_are_kept.Goals as goal

pub returns : goal.returns
returns c = steps_are_kept
