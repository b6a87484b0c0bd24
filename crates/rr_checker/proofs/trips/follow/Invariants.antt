use Rattle.std.proofs.Common.{◌≡◌, ℕ, length}
use Rattle.std.specs.List.{Contains}
use Rattle.rr_routes.specs.declared.net.Node.TheVariants.{Centre}
use Rattle.rr_checker.specs.Index.{IsIndexOf, IsOneOf}
use Rattle.rr_checker.proofs.FollowLemmas.{IsUnderWay}
use Rattle.rr_checker.proofs.trips.follow.Given as goal

abbrev pub invariant-loop-turn : goal.invariant-loop-turn
invariant-loop-turn l = record {
  count : length l.links.items ≡ l.turn;
  taken : IsIndexOf (IsOneOf l.links.items) l.taken;
  own : (link : ℕ) → Contains l.links.items link → Contains l.own link;
  way : IsUnderWay l.net l.own (Centre l.start) l.links.items l.nodes.items l.at;
}
