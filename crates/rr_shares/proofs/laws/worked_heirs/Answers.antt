use Rattle.std.specs.Prelude.{refl}
use Rattle.rr_shares.specs.Holdings.{heir}
use Rattle.rr_shares.proofs.laws.worked_heirs.Goals as goal

pub returns : goal.returns
unfolding heir
returns c = record { left_of_the_second = refl; left_of_the_last = refl; equal = refl }
