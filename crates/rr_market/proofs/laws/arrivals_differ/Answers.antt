use Rattle.rr_market.proofs.ArrivalLemmas.{arrivals-differ}
use Rattle.rr_market.proofs.laws.arrivals_differ.Goals as goal

pub returns : goal.returns
returns c book = arrivals-differ book
