use Rattle.rr_turns.proofs.EndLemmas.{each_turn_has_its_end as law}
use Rattle.rr_turns.proofs.laws.each_turn_has_its_end.Goals as goal

pub returns : goal.returns
returns g c = law g.row.C.Denot
