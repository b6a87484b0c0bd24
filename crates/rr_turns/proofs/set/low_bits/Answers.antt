use Rattle.std.proofs.Common.{◌-◌, ◌/◌, ◌^◌}
use Rattle.std.proofs.lemmas.Nat.{and_le_l}
use Rattle.rr_turns.proofs.SetLemmas.{low_bits-above, low_bits-below}
use Rattle.rr_turns.proofs.set.low_bits.Goals as goal

pub returns-clause-below : goal.returns-clause-below
returns-clause-below c = λ k le. low_bits-below c.args.word c.args.bit k c.requires le

pub returns-clause-above : goal.returns-clause-above
returns-clause-above c = λ k lt. low_bits-above c.args.word c.args.bit k c.requires lt

pub returns-clause-less : goal.returns-clause-less
returns-clause-less c = and_le_l c.args.word ((2 ^ 64 - 1) / 2 ^ (63 - c.args.bit))
