use Rattle.rr_kit.proofs.OneKit.{one_kit}
use Rattle.rr_kit.proofs.laws.kits_are_told_apart.Goals as goal

pub returns : goal.returns
returns c = one_kit
