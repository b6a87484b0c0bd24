use Rattle.rr_turns.proofs.EndLemmas.{ends_within as law}
use Rattle.rr_turns.proofs.laws.ends_are_within_the_commands.Goals as goal

pub returns : goal.returns
returns g c = law g.row.C.Denot
