use Rattle.rr_operate.proofs.DividendsLemmas.Balances.{withholding_pays_the_corporation}
use Rattle.rr_operate.proofs.dividends.laws.withholding_pays_the_corporation.Goals as goal

pub returns : goal.returns
returns c = withholding_pays_the_corporation
