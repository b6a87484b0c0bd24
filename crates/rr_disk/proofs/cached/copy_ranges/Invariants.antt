use Rattle.std.proofs.Common.{◌≡◌, ℕ, ◌<◌, length, drop, get_or}
use Rattle.rr_disk.specs.Disk.{IsOutside}
use Rattle.rr_disk.proofs.cached.copy_ranges.Given as goal

-- only the ranges that are left may differ
abbrev pub invariant-loop-range : goal.invariant-loop-range
invariant-loop-range l = (i : ℕ) → i < length l.to → IsOutside (drop l.range-index l.ranges) i → get_or l.from i 0 ≡ get_or l.to i 0
