-- Who raises, where several bid on what is for sale.
use Rattle.std.specs.Prelude.{◌≡◌, ◌≢◌, ℕ, ◌+◌, ◌-◌, ◌<◌, ◌≤◌, [], ◌∷◌, ◌++◌, Option, Some, nat_lt, if◌then◌else◌}
use Rattle.rr_roster.specs.declared.company.Private.{Private}
use Rattle.rr_books.specs.declared.parties.Seat.{Seat}
use Rattle.rr_books.specs.declared.entries.Entry.TheVariants as E
use Rattle.rr_books.specs.declared.entries.Marker.TheVariants as M
use Rattle.rr_books.specs.declared.acts.Act.{Act}
use Rattle.rr_books.specs.declared.acts.Act.TheVariants as A
use Rattle.rr_books.specs.Book.{Book, holder}
use Rattle.rr_auction.specs.AuctionLaws.{bid, for_sale}
use Rattle.rr_rounds.specs.Bids.Progress.{progress, raise_due}

-- who is to raise or leave
abbrev pub to_raise : Book → Option Seat
to_raise book = raise_due (holder book) (progress book)

-- how far on the left of a seat another one sits, round six seats
abbrev pub seats_on : Seat → Seat → ℕ
seats_on s t = if nat_lt s.0 t.0 then t.0 - s.0 else (t.0 + 6) - s.0

-- the nearest bidder on the left of a seat
pub record IsNextBidder (bids : Seat → ℕ) (s next : Seat) : Type 0 where
  pub other : next.0 ≢ s.0
  pub bidder : 0 < bids next
  pub nearest : (t : Seat) → t.0 < 6 → t.0 ≢ s.0 → 0 < bids t → seats_on s next ≤ seats_on s t

-- the nearest bidder on the left of one that nobody outbids
pub record IsLeftOfTheHighest (bids : Seat → ℕ) (raiser : Seat) : Type 0 where
  pub leader : Seat
  pub highest : (t : Seat) → bids t ≤ bids leader
  pub next : IsNextBidder bids leader raiser

-- who raises or leaves is the nearest bidder on the left of the highest
abbrev pub RaisersSitLeftOfTheHighest : Type 0
RaisersSitLeftOfTheHighest =
    (book : Book) (p : Private) (s : Seat) → for_sale book ≡ Some p → to_raise book ≡ Some s → IsLeftOfTheHighest (bid book p) s

-- a book in which a command is told
abbrev pub with_told : Book → Act → Book
with_told book act = book ++ E.Step (M.Act act) ∷ []

-- once a seat has raised over all bids, or left, the raising goes on, if it does, with the nearest bidder on that one's left
abbrev pub RaisingGoesLeft : Type 0
RaisingGoesLeft =
    (book : Book) (p : Private) (s next : Seat) → for_sale book ≡ Some p → to_raise book ≡ Some s
    → ((n : ℕ) → ((t : Seat) → bid book p t < n) → to_raise (with_told book (A.Bid s p n)) ≡ Some next → IsNextBidder (bid (with_told book (A.Bid s p n)) p) s next)
    × (to_raise (with_told book (A.Pass s)) ≡ Some next → IsNextBidder (bid (with_told book (A.Pass s)) p) s next)
