use Rattle.rr_referee.proofs.RevenueLemmas.{legal_earns}
use Rattle.rr_referee.proofs.laws.revenue.Goals as goal

pub returns : goal.returns
returns c = legal_earns
