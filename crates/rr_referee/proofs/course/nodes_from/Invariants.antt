use Rattle.std.proofs.Common.{◌≡◌, ◌∷◌, ◌++◌, drop}
use Rattle.rr_routes.specs.declared.net.Node.TheVariants.{Centre}
use Rattle.rr_referee.specs.Tests.{onward}
use Rattle.rr_referee.proofs.course.nodes_from.Given as goal

abbrev pub invariant-loop-link : goal.invariant-loop-link
invariant-loop-link l = l.nodes.items ++ onward l.net l.at (drop l.link-index l.links) ≡ Centre l.centre ∷ onward l.net (Centre l.centre) l.links
