use Rattle.rr_operate.proofs.DividendsLemmas.Flat.{entries_are_these}
use Rattle.rr_operate.proofs.dividends.laws.entries_are_these.Goals as goal

pub returns : goal.returns
returns c = entries_are_these
