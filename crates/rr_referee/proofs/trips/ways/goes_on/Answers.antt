use Rattle.rr_referee.proofs.TripsLemmas.LinkLemmas.{Decides-goes_on}
use Rattle.rr_referee.proofs.trips.ways.goes_on.Goals as goal

pub returns : goal.returns
returns c =
    Decides-goes_on c.args.net.now c.is_walk.result c.args.link c.args.next c.args.from.now c.args.to.now (rw c.far_end.ensures at c.is_walk.ensures)
