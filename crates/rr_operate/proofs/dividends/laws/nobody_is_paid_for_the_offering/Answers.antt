use Rattle.rr_operate.proofs.DividendsLemmas.Hundred.{nobody_is_paid_for_the_offering}
use Rattle.rr_operate.proofs.dividends.laws.nobody_is_paid_for_the_offering.Goals as goal

pub returns : goal.returns
returns c = nobody_is_paid_for_the_offering
