use Rattle.std.specs.Prelude.{refl}
use Rattle.std.specs.Fmt.{digits}
use Rattle.rr_entries.proofs.laws.worked_separators.Goals as goal

pub returns : goal.returns
unfolding digits
returns c = record { bought = refl; three = refl }
