-- A table's book that is in order.
use Rattle.std.specs.Prelude.{◌≡◌, ℕ, ◌<◌, pos, ◌≤ℤ◌, List, ◌++◌, None}
use Rattle.rr_roster.specs.declared.company.Corp.{Corp}
use Rattle.rr_roster.specs.Terms.{Terms}
use Rattle.rr_roster.specs.Chart.Chart.{Row}
use Rattle.rr_books.specs.declared.acts.Act.{Act}
use Rattle.rr_books.specs.declared.parties.Seat.{Seat}
use Rattle.rr_books.specs.declared.parties.Party.TheVariants as P
use Rattle.rr_books.specs.Book.{Book, balance, players}
pub use Rattle.rr_auction.specs.Dealt.{IsDealt, is_placed}
use Rattle.rr_auction.specs.SoundMoney as auctions
use Rattle.rr_stock.specs.Effects.{entries_of}
use Rattle.rr_stock.specs.PoolLimits.{HasHalfAtMost}
use Rattle.rr_stock.specs.Rules.{verdict}

-- a table of so many players, at which no seat and no corporation has less than nothing
pub record IsSolvent (n : ℕ) (book : Book) : Type 0 where
  pub seated : players book ≡ n
  pub seats : (s : Seat) → pos 0 ≤ℤ balance book (P.Seat s)
  pub corporations : (c : Corp) → pos 0 ≤ℤ balance book (P.Corp c)

-- a solvent table, whose certificates have their places, and whose pool has at most half of each corporation
pub record IsSound (n : ℕ) (book : Book) : Type 0 where
  pub solvent : IsSolvent n book
  pub dealt : IsDealt n book
  pub pool : HasHalfAtMost book

-- a table with players stays solvent with each lawful command of a stock round
abbrev pub StockStaysSolvent : Type 0
StockStaysSolvent =
    (n : ℕ) (rows : List Row) (book : Book) (act : Act) → 0 < n → verdict rows book act ≡ None
    → IsSolvent n book → IsSolvent n (book ++ entries_of rows book act)

-- and its certificates stay at places of the table
abbrev pub StockStaysDealt : Type 0
StockStaysDealt =
    (n : ℕ) (rows : List Row) (book : Book) (act : Act) → 0 < n → verdict rows book act ≡ None
    → IsSolvent n book → IsDealt n book → IsDealt n (book ++ entries_of rows book act)

-- so a sound book stays sound
abbrev pub StockStaysSound : Type 0
StockStaysSound =
    (n : ℕ) (rows : List Row) (book : Book) (act : Act) → 0 < n → verdict rows book act ≡ None
    → IsSound n book → IsSound n (book ++ entries_of rows book act)

-- where the pool has at most half of each corporation, it has at most half of each after whatever the auction takes down
abbrev pub AuctionStaysWithinHalf : Type 0
AuctionStaysWithinHalf =
    (roster : Terms) (rows : List Row) (book : Book) (act : Act) → HasHalfAtMost book → HasHalfAtMost (auctions.with_act roster rows book act)
