-- Nobody has more of a corporation than its president.
use Rattle.std.specs.Prelude.{◌≡◌, ℕ, ◌+◌, ◌<◌, ◌≤◌, ◌++◌, ◌⊎◌, true, None, Some, is_some, List, length, if◌then◌else◌}
use Rattle.rr_roster.specs.declared.company.Private.{Private}
use Rattle.rr_roster.specs.declared.company.Corp.{Corp}
use Rattle.rr_roster.specs.Terms.{Terms, IsOrder, order_of}
use Rattle.rr_roster.specs.Chart.Chart.{Row}
use Rattle.rr_books.specs.declared.parties.Seat.{Seat}
use Rattle.rr_books.specs.declared.parties.Place.TheVariants as L
use Rattle.rr_books.specs.declared.certificates.Cert.TheVariants as C
use Rattle.rr_books.specs.declared.acts.Act.{Act}
use Rattle.rr_books.specs.Book.{Book, holder}
use Rattle.rr_books.specs.Shares.{Holders, is_at, share}
use Rattle.rr_market.specs.Marks.{mark_of}
use Rattle.rr_shares.specs.Presidents.{IsPresident, NobodyHasMore}
use Rattle.rr_auction.specs.Opening.{opened}
use Rattle.rr_rounds.specs.Bids.Progress.{progress}
use Rattle.rr_auction.specs.SoundMoney as auctions
use Rattle.rr_rounds.specs.Bids.Unsold.{is_unsold}
use Rattle.rr_stock.specs.Effects.{entries_of}
use Rattle.rr_stock.specs.Rules.{verdict}
use Rattle.rr_laws.specs.Soundness.Sound.{IsSolvent}

-- the corporation's 20% certificate is in the offering
abbrev pub IsOffered : Book → Corp → Type 0
IsOffered book c = holder book (C.President c) ≡ Some L.Offer

-- a seat at a table of n has the 20% certificate, and no other seat there holds more of the corporation
pub record IsLed (n : ℕ) (book : Book) (c : Corp) : Type 0 where
  pub seat : Seat
  pub at_table : seat.0 < n
  pub presides : IsPresident book c seat
  pub leads : NobodyHasMore book c n seat

-- each 20% certificate is in the offering, or with a player than whom no other holds more of the corporation
abbrev pub HasGreatestPresidents : ℕ → Book → Type 0
HasGreatestPresidents n book = (c : Corp) → IsOffered book c ⊎ IsLed n book c

-- the share that a private can still bring: the C&A 10% of the PRR to its buyer, the M&H 10% of the NYC in exchange
abbrev pub promised : Holders → Corp → ℕ
promised holders Corp.Prr = if is_at (holders (C.Private Private.Ca)) L.Offer then 10 else 0
promised holders Corp.Nyc = if is_at (holders (C.Private Private.Mh)) L.Gone then 0 else 10
promised holders _ = 0

-- the corporation has no par yet: its 20% certificate is in the offering, its token isn't on the chart, and with what
-- a private still brings no seat has more than the 20% of a president
pub record AwaitsPar (book : Book) (c : Corp) : Type 0 where
  pub offered : IsOffered book c
  pub unmarked : mark_of book c ≡ None
  pub low : (s : Seat) → share (holder book) (L.Seat s) c + promised (holder book) c ≤ 20

-- each corporation awaits its par, or is led by its president
abbrev pub IsGoverned : ℕ → Book → Type 0
IsGoverned n book = (c : Corp) → AwaitsPar book c ⊎ IsLed n book c

-- the same while the auction runs: the 20% of the PRR is in the offering as long as the C&A is, and that of the B&O as
-- long as the B&O private is; and the B&O has its president when its par is due
pub record IsGovernedInAuction (n : ℕ) (book : Book) : Type 0 where
  pub governed : IsGoverned n book
  pub pennsylvania : is_unsold (holder book) Private.Ca ≡ true → IsOffered book Corp.Prr
  pub baltimore : is_unsold (holder book) Private.Bo ≡ true → IsOffered book Corp.Bo
  pub par_due : is_some (progress book).par_due ≡ true → IsLed n book Corp.Bo

-- a table opens so, and stays so whatever lawful acts the auction takes
abbrev pub AuctionStaysGoverned : Type 0
AuctionStaysGoverned =
    (roster : Terms) (rows : List Row) (names : List (List ℕ)) (bids : List Act) → IsOrder (order_of roster) → 2 ≤ length names
    → auctions.AreLawful roster rows (opened names roster) bids
    → IsGovernedInAuction (length names) (auctions.with_acts roster rows (opened names roster) bids)

-- a solvent table of six at most stays governed with each lawful command of a stock round
abbrev pub StockStaysGoverned : Type 0
StockStaysGoverned =
    (n : ℕ) (rows : List Row) (book : Book) (act : Act) → 0 < n → n ≤ 6 → verdict rows book act ≡ None
    → IsSolvent n book → IsGoverned n book → IsGoverned n (book ++ entries_of rows book act)

-- where it is governed, nobody has more of a corporation than its president
abbrev pub GovernedHasGreatestPresidents : Type 0
GovernedHasGreatestPresidents = (n : ℕ) (book : Book) → IsGoverned n book → HasGreatestPresidents n book
