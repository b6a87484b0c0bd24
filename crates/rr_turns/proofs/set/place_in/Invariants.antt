use Rattle.std.proofs.Common.{◌≡◌, ◌+◌, ◌*◌, length}
use Rattle.rr_turns.specs.Counts.{is_held, numbers_with}
use Rattle.rr_turns.proofs.set.place_in.Given as goal

abbrev pub invariant-loop-place : goal.invariant-loop-place
invariant-loop-place l = length (numbers_with (is_held l.words) (64 * l.index)) + l.rank ≡ length (numbers_with (is_held l.words) l.place) + l.left
