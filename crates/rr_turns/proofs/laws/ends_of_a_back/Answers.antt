use Rattle.rr_turns.proofs.EndLemmas.{tells_back as law}
use Rattle.rr_turns.proofs.laws.ends_of_a_back.Goals as goal

pub returns : goal.returns
returns g c = law g.row.C.Denot c.args.ends.now c.args.turn c.through.result c.through.ensures
