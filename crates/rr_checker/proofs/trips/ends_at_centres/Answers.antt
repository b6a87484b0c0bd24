use Rattle.std.proofs.Common.{◌<◌, length, sym, ◌∙◌}
use Rattle.rr_checker.proofs.TripLemmas.{nonempty, Decides-ends}
use Rattle.rr_checker.proofs.trips.ends_at_centres.Goals as goal

pub returns : goal.returns
returns c =
    let some : 0 < length c.args.nodes.now = nonempty (length c.args.nodes.now) (sym c.is_empty.ensures ∙ c.if-is_empty.false) in
    rw c.are_centres.ensures (Decides-ends c.args.nodes.now some)
