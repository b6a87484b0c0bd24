use Rattle.rr_turns.proofs.EndLemmas.{back_keeps_its_ends as law}
use Rattle.rr_turns.proofs.laws.back_keeps_its_ends.Goals as goal

pub returns : goal.returns
returns g c = law g.row.C.Denot
