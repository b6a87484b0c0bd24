use Rattle.std.proofs.Common.{◌≡◌, ℕ, List, ◌∙◌, ap, subst, arith}
use Rattle.rr_rounds.specs.Bids.Bids.{bid_in, bid_of}
use Rattle.rr_rounds.specs.Bids.Progress.{Progress, AreSmall}
use Rattle.rr_rounds.proofs.bids.bidding.Bidding.bid.Goals as goal

pub returns-clause-bound : goal.returns-clause-bound
returns-clause-bound c =
    let small : AreSmall c.args.self.now.bids = subst (λ (a : Progress). AreSmall a.bids) c.self.view_is c.self.invariant.3 in
    let shown : c.bid_in.result ≡ bid_of c.args.self.now.bids c.args.private c.args.seat = c.bid_in.ensures ∙ ap (λ (row : List ℕ). bid_in row c.args.seat) c.bids_on.ensures in
    omega (arith, small c.args.private c.args.seat)
