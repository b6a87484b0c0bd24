use Rattle.rr_network.proofs.StopLemmas.{nothing_laid, upgrades_keep}
use Rattle.rr_network.proofs.laws.hexes_keep_their_centres.Goals as goal

pub returns-clause-start : goal.returns-clause-start
returns-clause-start c = nothing_laid

pub returns-clause-next : goal.returns-clause-next
returns-clause-next c = upgrades_keep
