use Rattle.std.specs.Prelude.{refl}
use Rattle.std.proofs.Common.{arith}
use Rattle.rr_rounds.proofs.BidsLemmas.Openings.{begins, opens}
use Rattle.rr_rounds.proofs.BidsLemmas.SmallBids.{small_none}
use Rattle.rr_rounds.proofs.bids.bidding.Bidding.open.Goals as goal

pub invariant_of-result : goal.invariant_of-result
invariant_of-result c = (omega arith, omega arith, omega arith, small_none)

pub returns-clause-book : goal.returns-clause-book
returns-clause-book c roster players = opens roster players _ refl

pub returns-clause-auction : goal.returns-clause-auction
returns-clause-auction c roster players names = begins roster players names _ refl
