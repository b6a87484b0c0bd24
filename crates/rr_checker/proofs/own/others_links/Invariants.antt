use Rattle.rr_checker.specs.Own.{AreSelected, is_others}
use Rattle.rr_checker.proofs.own.others_links.Given as goal

abbrev pub invariant-loop-link : goal.invariant-loop-link
invariant-loop-link l = AreSelected (is_others l.train) l.fates l.link l.others.items
