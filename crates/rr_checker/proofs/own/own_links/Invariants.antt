use Rattle.rr_checker.specs.Own.{AreSelected, is_of}
use Rattle.rr_checker.proofs.own.own_links.Given as goal

abbrev pub invariant-loop-link : goal.invariant-loop-link
invariant-loop-link l = AreSelected (is_of l.train) l.fates l.link l.own.items
