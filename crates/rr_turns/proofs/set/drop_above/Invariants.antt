use Rattle.std.proofs.Common.{◌≡◌, ℕ, ◌<◌, ◌≤◌, get_or}
use Rattle.rr_turns.proofs.set.drop_above.Given as goal

abbrev pub invariant-loop-index : goal.invariant-loop-index
invariant-loop-index l = record {
  same : (k : ℕ) → k ≤ l.last → get_or l.words k 0 ≡ get_or l.fn.words k 0;
  none : (k : ℕ) → l.last < k → k < l.index → get_or l.words k 0 ≡ 0;
}
