-- Priority, from the auction on to the first stock round.
use Rattle.std.specs.Prelude.{◌≡◌, false, [], ◌∷◌, ◌++◌}
use Rattle.std.specs.List.{list_any}
use Rattle.rr_books.specs.declared.entries.Entry.TheVariants as E
use Rattle.rr_books.specs.declared.entries.Marker.TheVariants as M
use Rattle.rr_books.specs.Book.{Book}
use Rattle.rr_rounds.specs.Bids.Progress as auctions
use Rattle.rr_rounds.specs.Round as rounds
use Rattle.rr_rounds.specs.Round.{begins_stock_round}
use Rattle.rr_rounds.specs.Trades.{is_trade}

-- the auction and the stock rounds name one and the same seat for priority until the first stock round begins, and in it
-- until the first purchase or sale
abbrev pub PriorityIsOne : Type 0
PriorityIsOne =
    (before since : Book) → list_any begins_stock_round before ≡ false → list_any is_trade since ≡ false
    → (rounds.progress (before ++ since)).priority ≡ (auctions.progress (before ++ since)).priority

-- the first stock round begins with the turn of the seat that has priority by the auction
abbrev pub FirstTurnIsOfPriority : Type 0
FirstTurnIsOfPriority =
    (before : Book) → list_any begins_stock_round before ≡ false
    → (rounds.progress (before ++ E.Step M.Stock ∷ [])).turn ≡ (auctions.progress before).priority
