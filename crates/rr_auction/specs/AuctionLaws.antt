-- What an auction comes to, over a table's whole book.
use Rattle.std.specs.Prelude.{◌≡◌, ℕ, ◌+◌, ◌-◌, ◌*◌, ◌%◌, ◌<◌, Bool, true, false, Option, None, Some, nat_lt, not, count_by, unwrap_or, if◌then◌else◌, ◌==◌, ◌&&◌}
use Rattle.std.specs.Option.{option_map}
use Rattle.rr_roster.specs.declared.company.Private.{Private}
use Rattle.rr_roster.specs.Terms.{Terms, face_of}
use Rattle.rr_books.specs.declared.parties.Seat.{Seat}
use Rattle.rr_books.specs.declared.parties.Place.TheVariants as L
use Rattle.rr_books.specs.declared.certificates.Cert.TheVariants as C
use Rattle.rr_books.specs.declared.entries.Entry.{Entry}
use Rattle.rr_books.specs.declared.entries.Entry.TheVariants as E
use Rattle.rr_books.specs.declared.entries.Marker.TheVariants as M
use Rattle.rr_books.specs.declared.acts.Act.{Act}
use Rattle.rr_books.specs.declared.acts.Act.TheVariants as A
use Rattle.rr_books.specs.Book.{Book, holder, players}
use Rattle.rr_books.specs.Same.{same_seat}
use Rattle.rr_books.specs.Seating.{left_of}
use Rattle.rr_rounds.specs.Bids.Bids.{Bids, all_seats, bid_of}
use Rattle.rr_auction.specs.Effects.{brings_incomes}
use Rattle.rr_auction.specs.History.{last_told, times}
use Rattle.rr_rounds.specs.Bids.Progress.{progress}
use Rattle.rr_auction.specs.Rules.{price}
use Rattle.rr_rounds.specs.Bids.Unsold.{cheapest, is_private, same_private}

-- what a seat bids on a private: 0 without a bid
abbrev pub bid : Book → Private → Seat → ℕ
bid book p s = bid_of (progress book).bids p s

-- the private for sale: the cheapest that isn't sold
abbrev pub for_sale : Book → Option Private
for_sale book = cheapest (holder book)

-- two seats or more bid on what is for sale
abbrev pub several_bid : Bids → Option Private → Bool
several_bid bids None = false
several_bid bids (Some p) = nat_lt 1 (count_by (λ s. nat_lt 0 (bid_of bids p s)) all_seats)

-- what is for sale is raised for: two seats or more bid on it
abbrev pub is_raised : Book → Bool
is_raised book = several_bid (progress book).bids (for_sale book)

-- what a command says of a seat's bid on a private: the seat bids so much, or it leaves the raising and bids nothing
abbrev pub bid_by : Private → Seat → Bool → Option Private → Act → Option ℕ
bid_by p s raised on (A.Bid t q n) = if same_seat s t && same_private p q then Some n else None
bid_by p s raised on (A.Pass t) = if raised && same_seat s t && is_private p on then Some 0 else None
bid_by p s raised on _ = None

abbrev pub bid_told : Private → Seat → Book → Entry → Option ℕ
bid_told p s before (E.Step (M.Act act)) = bid_by p s (is_raised before) (for_sale before) act
bid_told p s before _ = None

-- a seat bids on a private what it said last of it
abbrev pub BidsAreTheLast : Type 0
BidsAreTheLast = (book : Book) (p : Private) (s : Seat) → s.0 < 6 → bid book p s ≡ unwrap_or (last_told (bid_told p s) book) 0

-- the first of all seats
abbrev pub first_seat : Seat
first_seat = record { 0 = 0 }

-- the seat on the left of the one that an entry gives a private
abbrev pub left_of_buyer : Book → Entry → Option Seat
left_of_buyer before (E.Move (C.Private p) (L.Seat s)) = Some (left_of (players before) s)
left_of_buyer before _ = None

-- priority is with the seat on the left of the last that got a private, and with the first seat while none did
abbrev pub PriorityIsLeftOfTheBuyer : Type 0
PriorityIsLeftOfTheBuyer = (book : Book) → (progress book).priority ≡ unwrap_or (last_told left_of_buyer book) first_seat

-- the seat that takes a turn by a command: to raise or to leave is no turn
abbrev pub turn_by : Bool → Act → Option Seat
turn_by raised (A.BuyPrivate s) = Some s
turn_by raised (A.Bid s p n) = if raised then None else Some s
turn_by raised (A.Pass s) = if raised then None else Some s
turn_by raised _ = None

abbrev pub turn_taken : Book → Entry → Option Seat
turn_taken before (E.Step (M.Act act)) = turn_by (is_raised before) act
turn_taken before _ = None

abbrev pub left_of_turn : Book → Entry → Option Seat
left_of_turn before e = option_map (left_of (players before)) (turn_taken before e)

-- the next turn is that of the seat on the left of the one that took the last, and the first that of the first seat
abbrev pub TurnIsLeftOfTheLast : Type 0
TurnIsLeftOfTheLast = (book : Book) → (progress book).turn ≡ unwrap_or (last_told left_of_turn book) first_seat

-- a seat passes in its turn
abbrev pub pass_by : Bool → Act → Bool
pass_by raised (A.Pass s) = not raised
pass_by raised _ = false

abbrev pub passes : Book → Entry → Bool
passes before (E.Step (M.Act act)) = pass_by (is_raised before) act
passes before _ = false

-- a seat buys or bids in its turn
abbrev pub trade_by : Bool → Act → Bool
trade_by raised (A.BuyPrivate s) = true
trade_by raised (A.Bid s p n) = not raised
trade_by raised _ = false

abbrev pub buys_or_bids : Book → Entry → Bool
buys_or_bids before (E.Step (M.Act act)) = trade_by (is_raised before) act
buys_or_bids before _ = false

-- the passes before a turn in which a seat buys or bids
abbrev pub passes_before : Book → Entry → Option ℕ
passes_before before e = if buys_or_bids before e then Some (times passes before) else None

-- the passes in turn since a seat last bought or bid in its turn
abbrev pub passes_in_a_row : Book → ℕ
passes_in_a_row book = times passes book - unwrap_or (last_told passes_before book) 0

-- a seat passes at a table of another number of players
abbrev pub passes_elsewhere : ℕ → Book → Entry → Bool
passes_elsewhere n before e = passes before e && not (players before == n)

-- with this pass all players have passed in a row, once or once more
abbrev pub all_passed : ℕ → Book → Entry → Bool
all_passed n before e = passes before e && ((passes_in_a_row before + 1) % n == 0)

-- all pass in a row while the first private is for sale
abbrev pub all_passed_on_first : ℕ → Book → Entry → Bool
all_passed_on_first n before e = all_passed n before e && is_private Private.Sv (for_sale before)

-- what the first private costs
abbrev pub first_price : Terms → Book → ℕ
first_price roster book = price roster (progress book).falls Private.Sv

-- the first private costs its face less 5 for each time that all players passed in a row while it was for sale
abbrev pub FirstPriceFallsByPasses : Type 0
FirstPriceFallsByPasses =
    (roster : Terms) (book : Book) (n : ℕ) → times (passes_elsewhere n) book ≡ 0
    → first_price roster book ≡ face_of roster Private.Sv - 5 * times (all_passed_on_first n) book

-- a pass brings the incomes where all pass in a row with it while another private than the first is for sale
abbrev pub IncomesComeByPasses : Type 0
IncomesComeByPasses =
    (book : Book) (s : Seat) → times (passes_elsewhere (players book)) book ≡ 0
    → brings_incomes (players book) (holder book) (progress book) ≡ (all_passed (players book) book (E.Step (M.Act (A.Pass s))) && not (is_private Private.Sv (for_sale book)))
