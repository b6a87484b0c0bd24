use Rattle.rr_rules.proofs.ForcedLemmas.SaleLemmas.{one_share_suffices}
use Rattle.rr_rules.proofs.forced.laws.one_share_suffices.Goals as goal

pub returns : goal.returns
returns c = one_share_suffices
