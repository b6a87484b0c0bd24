-- The auction of a table that opens.
use Rattle.std.specs.Prelude.{◌≡◌, ℕ, List, length}
use Rattle.rr_roster.specs.Terms.{Terms}
use Rattle.rr_rounds.specs.Bids.Progress.{Progress, IsBiddingOf, beginning}
use Rattle.rr_rounds.proofs.BidsLemmas.Openings as bids
use Rattle.rr_auction.specs.Opening.{opened}

-- the first seat is due, and nothing has happened yet
pub begins : (names : List (List ℕ)) (roster : Terms) (a : Progress) → a ≡ beginning → IsBiddingOf (opened names roster) a
begins names roster a e = bids.begins roster (length names) names a e
