use Rattle.std.proofs.Common.{length, take}
use Rattle.rr_checker.specs.Own.{AreGoneOver}
use Rattle.rr_checker.proofs.own.gone_over.Given as goal

abbrev pub invariant-loop-step : goal.invariant-loop-step
invariant-loop-step l = AreGoneOver (take l.step-index l.ends) (length l.net.links) l.marks.items
