use Rattle.rr_moderator.proofs.BestLemmas.{earn_alike}
use Rattle.rr_moderator.proofs.laws.best_runs_earn_alike.Goals as goal

pub returns : goal.returns
returns c = earn_alike c.best_earns_most.ensures.lawful c.best_earns_most.ensures.most
