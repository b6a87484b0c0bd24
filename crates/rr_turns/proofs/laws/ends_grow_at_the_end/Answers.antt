use Rattle.rr_turns.proofs.EndLemmas.{ends_grow as law}
use Rattle.rr_turns.proofs.laws.ends_grow_at_the_end.Goals as goal

pub returns : goal.returns
returns g c = law g.row.C.Denot
