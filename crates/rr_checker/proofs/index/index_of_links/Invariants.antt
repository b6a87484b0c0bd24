use Rattle.std.proofs.Common.{take}
use Rattle.rr_routes.specs.Reachability.Index.{IsIndexOf}
use Rattle.rr_checker.specs.Index.{TouchesAt}
use Rattle.rr_checker.proofs.index.index_of_links.Given as goal

abbrev pub invariant-loop-link : goal.invariant-loop-link
invariant-loop-link l = IsIndexOf (TouchesAt l.net (take l.link-index l.links)) l.index
