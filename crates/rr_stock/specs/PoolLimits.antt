-- How much of each corporation the pool has.
use Rattle.std.specs.Prelude.{◌≡◌, ◌≤◌, ◌++◌, List, None}
use Rattle.rr_roster.specs.declared.company.Corp.{Corp}
use Rattle.rr_roster.specs.Chart.Chart.{Row}
use Rattle.rr_books.specs.declared.parties.Place.TheVariants as L
use Rattle.rr_books.specs.declared.acts.Act.{Act}
use Rattle.rr_books.specs.Book.{Book, holder}
use Rattle.rr_books.specs.Shares.{share}
use Rattle.rr_stock.specs.Effects.{entries_of}
use Rattle.rr_stock.specs.Rules.{verdict}

-- the pool has at most half of each corporation
abbrev pub HasHalfAtMost : Book → Type 0
HasHalfAtMost book = (c : Corp) → share (holder book) L.Pool c ≤ 50

-- so it is after each lawful command of a stock round, where it was so before
abbrev pub PoolStaysWithinHalf : Type 0
PoolStaysWithinHalf =
    (rows : List Row) (book : Book) (act : Act) → verdict rows book act ≡ None
    → HasHalfAtMost book → HasHalfAtMost (book ++ entries_of rows book act)
