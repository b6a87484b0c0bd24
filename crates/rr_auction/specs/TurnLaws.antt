-- The turns of an auction, and the par that is owed, over a table's whole book.
use Rattle.std.specs.Prelude.{◌≡◌, ℕ, ◌-◌, Bool, true, false, List, Option, None, Some, count_by, is_some, unwrap_or, if◌then◌else◌}
use Rattle.rr_roster.specs.declared.company.Private.{Private}
use Rattle.rr_roster.specs.declared.company.Corp.{Corp}
use Rattle.rr_roster.specs.Terms.{Terms}
use Rattle.rr_roster.specs.Chart.Chart.{Row}
use Rattle.rr_books.specs.declared.parties.Seat.{Seat}
use Rattle.rr_books.specs.declared.parties.Place.TheVariants as L
use Rattle.rr_books.specs.declared.certificates.Cert.TheVariants as C
use Rattle.rr_books.specs.declared.entries.Entry.{Entry}
use Rattle.rr_books.specs.declared.entries.Entry.TheVariants as E
use Rattle.rr_books.specs.declared.entries.Marker.TheVariants as M
use Rattle.rr_books.specs.declared.acts.Act.{Act}
use Rattle.rr_books.specs.declared.acts.Act.TheVariants as A
use Rattle.rr_books.specs.Book.{Book}
use Rattle.rr_books.specs.declared.refusal.Refusal.TheVariants as F
use Rattle.rr_auction.specs.AuctionLaws.{first_price, for_sale}
use Rattle.rr_auction.specs.History.{last_told}
use Rattle.rr_rounds.specs.Bids.Progress.{progress}
use Rattle.rr_auction.specs.Rules.{turns, verdict}

-- the command buys, bids or passes
abbrev pub plays : Act → Bool
plays (A.BuyPrivate s) = true
plays (A.Bid s p n) = true
plays (A.Pass s) = true
plays _ = false

abbrev pub is_played : Entry → Bool
is_played (E.Step (M.Act act)) = plays act
is_played _ = false

-- who owes the B&O a par once the seat got a private: that seat, if it is the B&O's
abbrev pub owed_for : Private → Seat → Option (Option Seat)
owed_for Private.Bo s = Some (Some s)
owed_for _ s = None

-- and once a par is set: nobody, if it is that of the B&O
abbrev pub owed_once_set : Corp → Option (Option Seat)
owed_once_set Corp.Bo = Some None
owed_once_set _ = None

abbrev pub owed_by : Act → Option (Option Seat)
owed_by (A.Par s c price) = owed_once_set c
owed_by _ = None

abbrev pub owed_told : Book → Entry → Option (Option Seat)
owed_told before (E.Move (C.Private p) (L.Seat s)) = owed_for p s
owed_told before (E.Step (M.Act act)) = owed_by act
owed_told before _ = None

-- the seat that owes a par: the one that got the B&O's private, until it sets it
abbrev pub owes_par : Book → Option Seat
owes_par book = unwrap_or (last_told owed_told book) None

abbrev pub ParIsOwedByTheBuyer : Type 0
ParIsOwedByTheBuyer = (book : Book) → (progress book).par_due ≡ owes_par book

-- each purchase, bid and pass is a turn that ended, but for the last while a par is owed
abbrev pub TurnsAreCounted : Type 0
TurnsAreCounted = (book : Book) → turns book ≡ (if is_some (owes_par book) then count_by is_played book - 1 else count_by is_played book)

-- a first private that costs nothing has to be bought: a bid and a pass are refused
abbrev pub FreePrivateIsBought : Type 0
FreePrivateIsBought =
    (roster : Terms) (rows : List Row) (book : Book) (s : Seat) → for_sale book ≡ Some Private.Sv → first_price roster book ≡ 0
    → ((p : Private) (n : ℕ) → verdict roster rows book (A.Bid s p n) ≡ Some F.WrongStep) × (verdict roster rows book (A.Pass s) ≡ Some F.WrongStep)

-- only the seat in turn buys what is for sale
abbrev pub SeatInTurnBuys : Type 0
SeatInTurnBuys = (roster : Terms) (rows : List Row) (book : Book) (s : Seat) → verdict roster rows book (A.BuyPrivate s) ≡ None → s.0 ≡ (progress book).turn.0
