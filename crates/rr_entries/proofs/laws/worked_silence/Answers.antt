use Rattle.std.specs.Prelude.{refl}
use Rattle.rr_entries.proofs.laws.worked_silence.Goals as goal

pub returns : goal.returns
returns c = record { step = refl; payment_of_0 = refl; both = refl; nothing = refl }
