use Rattle.std.specs.Prelude.{length}
use Rattle.rr_auction.specs.Opening.{opened}
use Rattle.rr_auction.proofs.OpenedTable.{covered_opened}
use Rattle.rr_laws.proofs.SoundnessLemmas.PresidentsGoverned.{governed_at_first, governed_by_bids}
use Rattle.rr_laws.proofs.soundness.laws.auction_stays_governed.Goals as goal

pub returns : goal.returns
returns c roster rows names bids order two lawful =
    let n = length names in
    let all = governed_by_bids n roster rows bids (opened names roster) lawful (covered_opened names roster two) (governed_at_first n names roster order) in
    all.1
