use Rattle.rr_turns.proofs.EndLemmas.{tells_turns as law}
use Rattle.rr_turns.proofs.laws.ended_turns.Goals as goal

pub returns : goal.returns
returns g c = law g.row.C.Denot c.args.ends.now c.turns.result c.turns.ensures.value
