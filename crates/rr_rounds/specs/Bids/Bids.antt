-- The bids on the privates that wait, and the money that they tie up.
use Rattle.std.specs.Prelude.{ℕ, ◌+◌, max, Bool, List, [], ◌∷◌, Option, None, find, fold, is_some, nat_lt, not, option_and_then, slice_index, slice_index_or, slice_set, sum_by, if◌then◌else◌, ◌==◌, ◌&&◌}
use Rattle.std.specs.Option.{option_or}
use Rattle.rr_roster.specs.declared.company.Private.{Private}
use Rattle.rr_roster.specs.Company.{private_index}
use Rattle.rr_roster.specs.Terms.{Terms, face_of}
use Rattle.rr_books.specs.declared.parties.Seat.{Seat}
use Rattle.rr_books.specs.Shares.{Holders, privates}
use Rattle.rr_rounds.specs.Bids.Unsold.{is_unsold, same_private}

-- what each seat bids on one private, in dollars: 0 without a bid
abbrev pub Row : Type 0
Row = List ℕ

-- a row for each private, the cheapest first
abbrev pub Bids : Type 0
Bids = List Row

abbrev pub bids_on : Bids → Private → Row
bids_on bids p = slice_index_or bids (private_index p) []

abbrev pub bid_in : Row → Seat → ℕ
bid_in row s = slice_index row s.0

abbrev pub bid_of : Bids → Private → Seat → ℕ
bid_of bids p s = bid_in (bids_on bids p) s

-- nobody bids on any of the six
abbrev pub no_bids : Bids
no_bids = no_row ∷ no_row ∷ no_row ∷ no_row ∷ no_row ∷ no_row ∷ []
  where
    no_row : Row
    no_row = 0 ∷ 0 ∷ 0 ∷ 0 ∷ 0 ∷ 0 ∷ []

-- a seat's bid on a private takes the place of its earlier one; with 0 it has none
abbrev pub with_bid : Bids → Private → Seat → ℕ → Bids
with_bid bids p s n = slice_set bids (private_index p) (slice_set (bids_on bids p) s.0 n)

-- the seats that a table may have
abbrev pub all_seats : List Seat
all_seats = record { 0 = 0 } ∷ record { 0 = 1 } ∷ record { 0 = 2 } ∷ record { 0 = 3 } ∷ record { 0 = 4 } ∷ record { 0 = 5 } ∷ []

abbrev pub has_bid : Row → Seat → Bool
has_bid row s = nat_lt 0 (bid_in row s)

-- the highest bid, and 0 without any
unfoldable pub highest : Row → ℕ
highest row = fold max 0 row

-- who has the highest bid
unfoldable pub leader : Row → Option Seat
leader row = find (λ s. has_bid row s && (bid_in row s == highest row)) all_seats

-- the first bidder behind a seat in the seating order, and the first before it
unfoldable pub first_behind : Row → Seat → Option Seat
first_behind row s = find (λ t. nat_lt s.0 t.0 && has_bid row t) all_seats

unfoldable pub first_before : Row → Seat → Option Seat
first_before row s = find (λ t. nat_lt t.0 s.0 && has_bid row t) all_seats

-- the nearest bidder on a seat's left: the first behind it, or else the first before it
abbrev pub next_bidder : Row → Seat → Option Seat
next_bidder row s = option_or (first_behind row s) (first_before row s)

-- who is to raise or leave, where several bid: the nearest bidder on the left of the highest
abbrev pub raiser : Row → Option Seat
raiser row = option_and_then (next_bidder row) (leader row)

-- the bidder, where there is just one
abbrev pub sole_bidder : Row → Option Seat
sole_bidder row = if is_some (raiser row) then None else leader row

-- the least that may be bid on a private: 5 over its face or highest bid, whichever is greater
abbrev pub least_bid : Terms → Bids → Private → ℕ
least_bid roster bids p = max (highest (bids_on bids p)) (face_of roster p) + 5

-- what the seat has bid on a private, if that is unsold and another than the one named
abbrev pub tied_on : Holders → Bids → Seat → Private → Private → ℕ
tied_on holder bids s named p = if not (same_private p named) && is_unsold holder p then bid_of bids p s else 0

-- the money that a seat has tied up in bids on other unsold privates than the one named
unfoldable pub tied_up : Holders → Bids → Seat → Private → ℕ
tied_up holder bids s named = sum_by (tied_on holder bids s named) privates
