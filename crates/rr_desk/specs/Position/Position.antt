-- The views of a table, and what it is for them to stand for its book.
use Rattle.std.specs.Prelude.{◌≡◌, ℕ, ◌≤◌, ◌<◌, true, ◌++◌}
use Rattle.rr_books.specs.Book.{Book}
use Rattle.rr_books.specs.declared.entries.Entry.{Entry}
use Rattle.rr_books.specs.State.{State as Tables, IsStateOf, Fits as FitsTables}
use Rattle.rr_rounds.specs.Bids.Progress.{Progress, IsBiddingOf, amount_bid}
use Rattle.rr_market.specs.State.{State as Tokens, IsMarketOf}
use Rattle.rr_rounds.specs.Round.{Round, IsRoundOf}
use Rattle.rr_market.specs.Operations.Due.{OnRounds, IsOperationsOf}
use Rattle.rr_desk.specs.Layout.Layout.{Placed, IsLayoutOf, has_room}
use Rattle.rr_desk.specs.declared.position.position.TheConstants.{MOST_ENTRIES}

-- the money and the places, how far the auction has come, the tokens on the chart, how far the stock and the operating
-- rounds have come, the tiles and tokens on the board, and how many entries were followed
pub record OnTable : Type 0 where
  pub books : Tables
  pub bidding : Progress
  pub market : Tokens
  pub rounds : Round
  pub operations : OnRounds
  pub layout : Placed
  pub entries : ℕ

-- each view stands for the book
pub record IsPositionOf (book : Book) (p : OnTable) : Type 0 where
  pub books : IsStateOf book p.books
  pub bidding : IsBiddingOf book p.bidding
  pub market : IsMarketOf book p.market
  pub rounds : IsRoundOf book p.rounds
  pub operations : IsOperationsOf book p.operations
  pub layout : IsLayoutOf book p.layout

-- an entry that the views have room for
abbrev pub Fits : OnTable → Entry → Type 0
Fits p e = FitsTables p.books e × (amount_bid e ≤ 10000000000)

-- the views take one entry more: the count isn't at its end, and the board has a slot for what the entry puts there
abbrev pub HasRoom : OnTable → Entry → Type 0
HasRoom p e = (p.entries < MOST_ENTRIES) × (has_room p.layout e ≡ true)

-- the new views stand for every book that the old ones stood for, with these entries more
abbrev pub Follows : OnTable → OnTable → Book → Type 0
Follows old new entries = (book : Book) → IsPositionOf book old → IsPositionOf (book ++ entries) new
