use Rattle.std.proofs.Common.{length}
use Rattle.rr_kit.proofs.board.home_words.+slots_at.Given as goal

abbrev pub decreases-slots_at : goal.decreases-slots_at
decreases-slots_at l = length l.parts.now
