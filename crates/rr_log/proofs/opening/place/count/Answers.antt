use Rattle.std.proofs.Common.{arith}
use Rattle.rr_log.proofs.OpeningLemmas.Places.{counted_lines}
use Rattle.rr_log.proofs.opening.place.count.Goals as goal

pub returns-clause-same : goal.returns-clause-same
returns-clause-same c =
    let scanned = c.args.scanned.now in
    omega (arith, c.min.ensures, c.len.ensures, c.from.ensures, scanned.records.ok, counted_lines scanned.records.items scanned.half.next_slot c.requires)
