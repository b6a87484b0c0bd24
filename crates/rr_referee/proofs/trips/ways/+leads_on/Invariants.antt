use Rattle.std.proofs.Common.{ℕ, ◌<◌, get_or, length}
use Rattle.rr_referee.specs.Trips.Ways.{GoesOn, LeadsOn}
use Rattle.rr_referee.proofs.trips.ways.+leads_on.Given as goal

abbrev pub decreases-leads_on : goal.decreases-leads_on
decreases-leads_on l = length l.own.now

abbrev pub invariant-loop-next : goal.invariant-loop-next
invariant-loop-next l =
    (k : ℕ) → k < l.next-index → GoesOn l.net l.link l.from l.to (get_or l.next-items k 0) × LeadsOn l.net l.next-items (get_or l.next-items k 0) l.to → ⊥
