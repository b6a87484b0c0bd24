use Rattle.rr_turns.proofs.EndLemmas.{tells_count as law}
use Rattle.rr_turns.proofs.laws.count_of_a_back.Goals as goal

pub returns : goal.returns
returns g c = law g.row.C.Denot c.args.ends.now c.args.turn c.kept_at.result c.kept_at.ensures.value
