-- What a stock round waits for, and how many turns have ended.
use Rattle.std.specs.Prelude.{ℕ, Option, None, Some, if◌then◌else◌}
use Rattle.rr_books.specs.declared.parties.Seat.{Seat}
use Rattle.rr_books.specs.Book.{Book}
use Rattle.rr_rounds.specs.Round.{Round, progress}

-- the seat in turn, while a stock round is under way
abbrev pub due_in : Round → Option Seat
due_in r = if r.under_way then Some r.turn else None

abbrev pub due : Book → Option Seat
due book = due_in (progress book)

-- the turns that have ended in stock rounds
abbrev pub turns : Book → ℕ
turns book = (progress book).turns
