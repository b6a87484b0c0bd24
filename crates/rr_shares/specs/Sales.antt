-- What a sale of shares does, whatever the book.
use Rattle.std.specs.Prelude.{◌≡◌, ◌≢◌, ℕ, ◌+◌, ◌*◌, ◌<◌, ◌≤◌, ◌++◌, ◌⊎◌}
use Rattle.rr_roster.specs.declared.company.Corp.{Corp}
use Rattle.rr_books.specs.declared.parties.Seat.{Seat}
use Rattle.rr_books.specs.declared.parties.Place.TheVariants as L
use Rattle.rr_books.specs.Book.{Book, holder, players}
use Rattle.rr_books.specs.Shares.{share}
use Rattle.rr_shares.specs.Effects.{sale_shares}
use Rattle.rr_shares.specs.Presidents.{IsPresident, NobodyHasMore}

-- another seat of the table holds at least the 20% that a president needs
pub record AnotherHasTwenty (book : Book) (c : Corp) (seller : Seat) : Type 0 where
  pub seat : Seat
  pub at_table : seat.0 < players book
  pub another : seat.0 ≢ seller.0
  pub enough : 20 ≤ share (holder book) (L.Seat seat) c

-- a seat holds the n shares that it sells, and where it is the president, it keeps 20% or another seat has as much
pub record MaySell (book : Book) (c : Corp) (p seller : Seat) (n : ℕ) : Type 0 where
  pub holds : 10 * n ≤ share (holder book) (L.Seat seller) c
  pub leaves : p.0 ≡ seller.0 → (20 + 10 * n ≤ share (holder book) (L.Seat seller) c) ⊎ AnotherHasTwenty book c seller

-- n shares went from the seller to the pool, and every other seat holds as much as before
pub record AreSold (old new : Book) (c : Corp) (seller : Seat) (n : ℕ) : Type 0 where
  pub to_pool : share (holder new) L.Pool c ≡ share (holder old) L.Pool c + 10 * n
  pub from_seller : share (holder new) (L.Seat seller) c + 10 * n ≡ share (holder old) (L.Seat seller) c
  pub others : (s : Seat) → s.0 ≢ seller.0 → share (holder new) (L.Seat s) c ≡ share (holder old) (L.Seat s) c

-- some seat is the corporation's president, and nobody at a table of n holds more of it
pub record PresidentLeads (book : Book) (c : Corp) (n : ℕ) : Type 0 where
  pub seat : Seat
  pub presides : IsPresident book c seat
  pub leads : NobodyHasMore book c n seat

-- a sale moves just the shares that are sold, and nobody holds more than the president then
abbrev pub SalesMoveShares : Type 0
SalesMoveShares =
    (c : Corp) (book : Book) (p seller : Seat) (n : ℕ) → IsPresident book c p → p.0 < players book → players book ≤ 6 → MaySell book c p seller n
    → AreSold book (book ++ sale_shares c seller n book) c seller n × PresidentLeads (book ++ sale_shares c seller n book) c (players book)
