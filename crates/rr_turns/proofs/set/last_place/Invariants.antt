use Rattle.std.proofs.Common.{◌≡◌, ℕ, ◌+◌, ◌<◌, false}
use Rattle.rr_turns.specs.Counts.{is_held}
use Rattle.rr_turns.proofs.set.last_place.Given as goal

abbrev pub invariant-loop-place : goal.invariant-loop-place
invariant-loop-place l = (l.place < 4096) × ((other : ℕ) → l.place < other → other < 4096 → is_held l.words (other + 1) ≡ false)

abbrev pub decreases-loop-place : goal.decreases-loop-place
decreases-loop-place l = l.place
