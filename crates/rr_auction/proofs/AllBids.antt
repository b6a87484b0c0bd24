-- What a seat has bid on all unsold privates.
use Rattle.std.specs.Prelude.{◌≡◌, ℕ, ◌+◌, sum_by, if◌then◌else◌}
use Rattle.std.proofs.Common.{arith}
use Rattle.rr_roster.specs.declared.company.Private.{Private}
use Rattle.rr_books.specs.declared.parties.Seat.{Seat}
use Rattle.rr_books.specs.Shares.{Holders, privates}
use Rattle.rr_rounds.specs.Bids.Bids.{Bids, bid_of, tied_up}
use Rattle.rr_rounds.specs.Bids.Unsold.{is_unsold}

-- what a seat has bid on a private, if that is unsold
abbrev pub bid_on : Holders → Bids → Seat → Private → ℕ
bid_on holder bids s p = if is_unsold holder p then bid_of bids p s else 0

-- what a seat has bid on all unsold privates
unfoldable pub all_bids : Holders → Bids → Seat → ℕ
all_bids holder bids s = sum_by (bid_on holder bids s) privates

-- the bids of a seat are those that a purchase of the private leaves tied up, and that on the private
pub split : (H : Holders) (b : Bids) (t : Seat) (p : Private) → all_bids H b t ≡ tied_up H b t p + bid_on H b t p
unfolding all_bids tied_up
split H b t Private.Sv = omega arith
split H b t Private.Csl = omega arith
split H b t Private.Dh = omega arith
split H b t Private.Mh = omega arith
split H b t Private.Ca = omega arith
split H b t Private.Bo = omega arith
