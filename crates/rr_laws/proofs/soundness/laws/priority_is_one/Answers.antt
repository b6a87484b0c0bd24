use Rattle.rr_laws.proofs.SoundnessLemmas.Priorities.{one_before, one_since}
use Rattle.rr_laws.proofs.soundness.laws.priority_is_one.Goals as goal

pub returns : goal.returns
returns c before since none quiet = one_since before since (one_before before none) quiet
