use Rattle.std.proofs.Common.{◌∙◌}
use Rattle.std.specs.Prelude.{None, if◌then◌else◌}
use Rattle.rr_rounds.specs.Bids.Bids.{bids_on, sole_bidder}
use Rattle.rr_rounds.specs.Bids.Unsold.{cheapest, is_private}
use Rattle.rr_auction.proofs.Standing.{by_views}
use Rattle.rr_auction.proofs.settling.buyer.Goals as goal

pub returns-clause-value : goal.returns-clause-value
returns-clause-value c book h =
    let p = c.args.private in
    c.buyer_by.ensures.value
    ∙ by_views (λ H a. if is_private p (cheapest H) then sole_bidder (bids_on a.bids p) else None) book c.args.position.now c.books.result.now c.bidding.result.now c.books.ensures c.bidding.ensures h
