use Rattle.rr_operate.proofs.DividendsLemmas.Balances.{pays_each_holder}
use Rattle.rr_operate.proofs.dividends.laws.pays_each_holder.Goals as goal

pub returns : goal.returns
returns c = pays_each_holder
