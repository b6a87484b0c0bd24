use Rattle.rr_laws.proofs.SoundnessLemmas.Auctioned.{half_after_act}
use Rattle.rr_laws.proofs.soundness.laws.auction_stays_within_half.Goals as goal

pub returns : goal.returns
returns c roster rows book act half = half_after_act roster rows book act half
