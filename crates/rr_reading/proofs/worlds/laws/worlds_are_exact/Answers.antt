use Rattle.rr_reading.proofs.WorldLemmas.Exact.{are_exact}
use Rattle.rr_reading.proofs.worlds.laws.worlds_are_exact.Goals as goal

pub returns : goal.returns
returns g _ = are_exact g.R.Rules.rules
