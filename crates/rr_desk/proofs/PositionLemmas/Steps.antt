-- How a position goes on standing for a book as it grows.
use Rattle.std.specs.Prelude.{◌++◌}
use Rattle.rr_books.specs.Book.{Book}
use Rattle.rr_books.specs.State.{IsStateOf, Extends}
use Rattle.rr_rounds.specs.Bids.Progress.{IsBiddingOf}
use Rattle.rr_market.specs.State.{IsMarketOf}
use Rattle.rr_rounds.specs.Round.{IsRoundOf}
use Rattle.rr_market.specs.Operations.Due.{IsOperationsOf}
use Rattle.rr_desk.specs.Layout.Layout as layout
use Rattle.rr_desk.specs.Position.Position.{OnTable, IsPositionOf, Follows}

-- each view followed the entries, the auction by the books before them, the operating rounds by books, market and stock
-- rounds before them
pub follows_by_views : (old new : OnTable) (es : Book) → Extends old.books new.books es → ((book : Book) → IsStateOf book old.books → IsBiddingOf book old.bidding → IsBiddingOf (book ++ es) new.bidding) → ((book : Book) → IsMarketOf book old.market → IsMarketOf (book ++ es) new.market) → ((book : Book) → IsRoundOf book old.rounds → IsRoundOf (book ++ es) new.rounds) → ((book : Book) → IsStateOf book old.books → IsMarketOf book old.market → IsRoundOf book old.rounds → IsOperationsOf book old.operations → IsOperationsOf (book ++ es) new.operations) → layout.Extends old.layout new.layout es → Follows old new es
follows_by_views old new es books bidding market rounds operations laid book h = record {
  books = books book h.books;
  bidding = bidding book h.books h.bidding;
  market = market book h.market;
  rounds = rounds book h.rounds;
  operations = operations book h.books h.market h.rounds h.operations;
  layout = laid book h.layout;
}
