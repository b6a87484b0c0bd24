use Rattle.std.proofs.Common.{◌≡◌, ◌∙◌, ap, subst, arith}
use Rattle.rr_rounds.specs.Bids.Bids.{bids_on, highest}
use Rattle.rr_rounds.specs.Bids.Progress.{Progress, AreSmall}
use Rattle.rr_rounds.proofs.BidsLemmas.SmallBids.{highest_small_on}
use Rattle.rr_rounds.proofs.bids.bidding.Bidding.highest_bid.Goals as goal

pub returns-clause-bound : goal.returns-clause-bound
returns-clause-bound c =
    let small : AreSmall c.args.self.now.bids = subst (λ (a : Progress). AreSmall a.bids) c.self.view_is c.self.invariant.3 in
    let shown : c.highest.result ≡ highest (bids_on c.args.self.now.bids c.args.private) = c.highest.ensures ∙ ap highest c.bids_on.ensures in
    omega (arith, highest_small_on c.args.self.now.bids c.args.private small)
