use Rattle.std.proofs.Common.{length, ap, subst, arith}
use Rattle.rr_turns.specs.Counts.{AreEnds, counts_of}
use Rattle.rr_turns.specs.Sets.{are_ends}
use Rattle.rr_turns.proofs.PlaceLemmas.{ends-some}
use Rattle.rr_turns.proofs.ends.Ends.turns.Goals as goal

pub overflow_sub-result : goal.overflow_sub-result
overflow_sub-result c = omega (arith, c.size.ensures.value, ends-some (counts_of c.self.inside.words) (are_ends c.self.inside.words c.self.invariant))

pub returns-clause-counts : goal.returns-clause-counts
returns-clause-counts c = subst AreEnds c.self.view_is (are_ends c.self.inside.words c.self.invariant)

pub returns-clause-value : goal.returns-clause-value
returns-clause-value c =
    omega (arith, c.size.ensures.value, ap length c.self.view_is, ends-some (counts_of c.self.inside.words) (are_ends c.self.inside.words c.self.invariant))
