use Rattle.rr_laws.proofs.SoldAlong.{phases_are_greatest_sold}
use Rattle.rr_laws.proofs.phases_are_greatest_sold.Goals as goal

pub returns : goal.returns
returns c kit commands = phases_are_greatest_sold kit commands
