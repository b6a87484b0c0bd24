use Rattle.rr_operate.proofs.InOrder.{only_the_corporation_due}
use Rattle.rr_operate.proofs.laws.only_the_corporation_due.Goals as goal

pub returns : goal.returns
returns c = only_the_corporation_due
