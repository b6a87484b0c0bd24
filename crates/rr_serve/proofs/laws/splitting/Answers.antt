use Rattle.rr_serve.proofs.SplitLemmas.{Splits-some, Splits-only, Splits-stays}
use Rattle.rr_serve.proofs.laws.splitting.Goals as goal

pub returns-clause-splits : goal.returns-clause-splits
returns-clause-splits c = Splits-some

pub returns-clause-only : goal.returns-clause-only
returns-clause-only c = Splits-only

pub returns-clause-stays : goal.returns-clause-stays
returns-clause-stays c = Splits-stays
