use Rattle.std.proofs.Common.{length}
use Rattle.rr_market.proofs.arrivals.+are_ranks.Given as goal

abbrev pub decreases-are_ranks : goal.decreases-are_ranks
decreases-are_ranks l = length l.ranks.now
