use Rattle.rr_operate.proofs.InOrder.{discards_come_first}
use Rattle.rr_operate.proofs.laws.discards_come_first.Goals as goal

pub returns : goal.returns
returns c = discards_come_first
