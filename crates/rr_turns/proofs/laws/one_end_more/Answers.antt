use Rattle.rr_turns.proofs.EndLemmas.{tells_one_more as law}
use Rattle.rr_turns.proofs.laws.one_end_more.Goals as goal

pub returns : goal.returns
returns g c = law g.row.C.Denot c.args.ends.now c.args.count c.add.new.self c.add.ensures
