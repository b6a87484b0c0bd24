use Rattle.std.proofs.Common.{◌≡◌, ◌<◌, ◌&&◌, ℕ, not, false, get_or}
use Rattle.rr_checker.specs.Index.{is_noted}
use Rattle.rr_checker.specs.Own.{touches}
use Rattle.rr_checker.proofs.trips.next_link.Given as goal

abbrev pub invariant-loop-link : goal.invariant-loop-link
invariant-loop-link l = (k : ℕ) → k < l.link-index → (touches l.net (get_or l.own k 0) l.at && not (is_noted l.taken (get_or l.own k 0))) ≡ false
