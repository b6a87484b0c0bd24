use Rattle.std.proofs.Common.{◌≡◌}
use Rattle.rr_search.specs.Whole.{whole_size}
use Rattle.rr_search.proofs.whole.whole_fits.Given as goal

abbrev pub invariant-loop-link : goal.invariant-loop-link
invariant-loop-link l = l.size ≡ whole_size l.trains l.link
