use Rattle.rr_laws.proofs.SoundnessLemmas.Turns.{seated}
use Rattle.rr_laws.proofs.soundness.laws.turn_is_at_the_table.Goals as goal

pub returns : goal.returns
returns c book some = seated book some
