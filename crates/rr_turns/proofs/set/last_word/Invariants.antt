use Rattle.std.proofs.Common.{◌≡◌, ℕ, ◌<◌, get_or}
use Rattle.rr_turns.proofs.set.last_word.Given as goal

abbrev pub invariant-loop-index : goal.invariant-loop-index
invariant-loop-index l = (l.index < 64) × ((k : ℕ) → l.index < k → k < 64 → get_or l.words k 0 ≡ 0)

abbrev pub decreases-loop-index : goal.decreases-loop-index
decreases-loop-index l = l.index
