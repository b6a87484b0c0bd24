use Rattle.std.proofs.Common.{◌≡◌, ◌+◌, ◌*◌, length}
use Rattle.rr_turns.specs.Counts.{is_held, numbers_with}
use Rattle.rr_turns.proofs.set.place_of.Given as goal

abbrev pub invariant-loop-index : goal.invariant-loop-index
invariant-loop-index l = l.rank ≡ length (numbers_with (is_held l.words) (64 * l.index)) + l.left
