use Rattle.rr_checker.specs.Runs.{AreCounted}
use Rattle.rr_checker.proofs.full.run_over.Given as goal

abbrev pub invariant-loop-train : goal.invariant-loop-train
invariant-loop-train l = AreCounted l.net l.fates l.train l.all.items
