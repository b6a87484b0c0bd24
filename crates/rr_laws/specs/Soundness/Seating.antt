-- Who is in turn sits at the table.
use Rattle.std.specs.Prelude.{◌<◌}
use Rattle.rr_books.specs.Book.{Book, players}
use Rattle.rr_rounds.specs.Round.{progress}

-- the seat in turn in a stock round, and that with priority, sit at the table, once anybody does
abbrev pub TurnIsAtTheTable : Type 0
TurnIsAtTheTable = (book : Book) → 0 < players book → ((progress book).turn.0 < players book) × ((progress book).priority.0 < players book)
