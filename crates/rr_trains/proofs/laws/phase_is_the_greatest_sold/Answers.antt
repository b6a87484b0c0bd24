use Rattle.rr_trains.specs.PhaseLaws.{phase_is_the_greatest_sold}
use Rattle.rr_trains.proofs.laws.phase_is_the_greatest_sold.Goals as goal

pub returns : goal.returns
returns c = phase_is_the_greatest_sold
