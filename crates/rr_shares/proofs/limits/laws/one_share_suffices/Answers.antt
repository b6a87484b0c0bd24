use Rattle.rr_shares.specs.Limits.SaleLaws as laws
use Rattle.rr_shares.proofs.limits.laws.one_share_suffices.Goals as goal

pub returns : goal.returns
returns c = laws.one_share_suffices
