use Rattle.std.proofs.Common.{length}
use Rattle.rr_orders.specs.Texts.{CutSoFar}
use Rattle.rr_orders.proofs.runs.cut_at_best.Given as goal

abbrev pub invariant-loop-word : goal.invariant-loop-word
invariant-loop-word l = CutSoFar l.text l.words l.before

abbrev pub decreases-loop-word : goal.decreases-loop-word
decreases-loop-word l = length l.words
