use Rattle.std.proofs.Common.{◌≡◌, ℕ, ◌-◌, ◌<◌, ◌≤◌, length, get_or}
use Rattle.std.specs.Int.Bits.{bit_or}
use Rattle.rr_pages.proofs.page_set.lanes.or_eights.Given as goal

abbrev pub invariant-loop-into : goal.invariant-loop-into
invariant-loop-into l =
    record {
      within : l.at ≤ length l.into;
      long : length l.into ≡ length l.from;
      done : (j : ℕ) → j < l.at → get_or l.into j 0 ≡ bit_or (get_or l.fn.into j 0) (get_or l.from j 0);
      same : (j : ℕ) → l.at ≤ j → get_or l.into j 0 ≡ get_or l.fn.into j 0;
    }

abbrev pub decreases-loop-into : goal.decreases-loop-into
decreases-loop-into l = length l.into - l.at
