use Rattle.std.proofs.Common.{◌≡◌, ℕ, ◌<◌, ◌≤◌, get_or, length}
use Rattle.rr_market.specs.Arrivals.{lowered}
use Rattle.rr_market.proofs.arrivals.Arrivals.note.Given as goal

abbrev pub invariant-loop-rank : goal.invariant-loop-rank
invariant-loop-rank l = record {
  eight : length l.rank-items ≡ 8;
  done : (k : ℕ) → k < l.rank-index → get_or l.rank-items k 0 ≡ lowered l.before (get_or l.fn.self k 0);
  rest : (k : ℕ) → l.rank-index ≤ k → get_or l.rank-items k 0 ≡ get_or l.fn.self k 0;
}
