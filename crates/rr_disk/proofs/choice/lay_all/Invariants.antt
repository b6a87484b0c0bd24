use Rattle.std.proofs.Common.{◌≡◌, length}
use Rattle.std.specs.List.{AllByRecursion}
use Rattle.rr_disk.specs.Range.{IsWithin}
use Rattle.rr_disk.specs.Choice.{FitRanges, all_laid}
use Rattle.rr_disk.proofs.choice.lay_all.Given as goal

abbrev pub invariant-loop-ranges : goal.invariant-loop-ranges
invariant-loop-ranges l =
    record {
      laid : all_laid l.content l.ranges l.choices l.file ≡ all_laid l.content l.fn.ranges l.fn.choices l.fn.file;
      len : length l.content ≡ length l.file;
      within : AllByRecursion (IsWithin (length l.content)) l.ranges;
      fronts : FitRanges l.ranges l.choices;
    }

abbrev pub decreases-loop-ranges : goal.decreases-loop-ranges
decreases-loop-ranges l = length l.ranges
