use Rattle.rr_shares.proofs.Handovers.{president_has_most}
use Rattle.rr_shares.proofs.laws.president_has_the_most.Goals as goal

pub returns : goal.returns
returns c corp book p e seated few = president_has_most corp book p e seated few
