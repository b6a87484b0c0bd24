use Rattle.rr_lay.proofs.ReachLemmas.{NoneBelow}
use Rattle.rr_lay.proofs.upgrades.reaches_any.Given as goal

abbrev pub invariant-loop-place : goal.invariant-loop-place
invariant-loop-place l = NoneBelow l.reach l.old l.hex l.links l.place
