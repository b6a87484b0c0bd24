use Rattle.std.proofs.Common.{◌≡◌, ◌*◌, ◌≤◌, length}
use Rattle.rr_turns.specs.Counts.{is_held, numbers_with}
use Rattle.rr_turns.proofs.set.size.Given as goal

abbrev pub invariant-loop-index : goal.invariant-loop-index
invariant-loop-index l = record {
  counted : l.size ≡ length (numbers_with (is_held l.words) (64 * l.index));
  few : l.size ≤ 64 * l.index;
}
