use Rattle.std.proofs.lemmas.Bool.Decides.{same_from_decides}
use Rattle.rr_checker.specs.Own.{touches}
use Rattle.rr_checker.proofs.OwnLemmas.{Decides-touches}
use Rattle.rr_referee.proofs.TripsLemmas.LinkLemmas.{Decides-by_walk}
use Rattle.rr_referee.proofs.trips.links.touches.Goals as goal

pub returns : goal.returns
returns c =
    same_from_decides c.is_walk.result (touches c.args.net.now c.args.link c.args.node.now)
    (Decides-by_walk c.args.net.now c.is_walk.result c.args.link c.args.node.now (rw c.far_end.ensures at c.is_walk.ensures))
    (Decides-touches c.args.net.now c.args.link c.args.node.now)
