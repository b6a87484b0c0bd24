use Rattle.rr_laws.proofs.SoundnessLemmas.PresidentsGoverned.{greatest_where_governed}
use Rattle.rr_laws.proofs.soundness.laws.good_order_has_greatest_presidents.Goals as goal

pub returns : goal.returns
returns c n book h = greatest_where_governed n book h.governed
