use Rattle.std.proofs.Common.{take}
use Rattle.rr_routes.specs.Reachability.Index.{IsIndexOf, StandsAt}
use Rattle.rr_routes.specs.Routes.{NoneTwice}
use Rattle.rr_checker.specs.Index.{node_key}
use Rattle.rr_checker.proofs.trips.is_simple_by_index.Given as goal

-- no node so far stands twice, and the places so far are noted by the keys of their nodes
abbrev pub invariant-loop-place : goal.invariant-loop-place
invariant-loop-place l = record {
  simple : NoneTwice (take l.place l.nodes);
  seen : IsIndexOf (StandsAt node_key l.nodes l.place) l.seen;
}
