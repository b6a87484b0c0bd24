use Rattle.std.proofs.Common.{length}
use Rattle.rr_code.specs.Players.{IsReadSoFar}
use Rattle.rr_code.proofs.players.Players.read.Given as goal

abbrev pub invariant-loop-word : goal.invariant-loop-word
invariant-loop-word l = IsReadSoFar l.fn.words l.count l.names l.words

abbrev pub decreases-loop-word : goal.decreases-loop-word
decreases-loop-word l = length l.words
