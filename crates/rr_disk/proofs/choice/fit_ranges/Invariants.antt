use Rattle.std.proofs.Common.{length}
use Rattle.std.specs.Prelude.{◌↔◌}
use Rattle.rr_disk.specs.Choice.{FitRanges}
use Rattle.rr_disk.proofs.choice.fit_ranges.Given as goal

abbrev pub invariant-loop-ranges : goal.invariant-loop-ranges
invariant-loop-ranges l = FitRanges l.ranges l.choices ↔ FitRanges l.fn.ranges l.fn.choices

abbrev pub decreases-loop-ranges : goal.decreases-loop-ranges
decreases-loop-ranges l = length l.ranges
