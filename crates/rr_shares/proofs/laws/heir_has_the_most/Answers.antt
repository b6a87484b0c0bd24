use Rattle.rr_shares.proofs.Heirs.{heir_has_most}
use Rattle.rr_shares.proofs.laws.heir_has_the_most.Goals as goal

pub returns : goal.returns
returns c row n president seated long = heir_has_most row n president seated long
