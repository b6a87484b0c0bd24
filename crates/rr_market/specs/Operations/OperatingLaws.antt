-- What operating rounds come to, over a stretch of a book.
use Rattle.std.specs.Prelude.{◌≡◌, ◌≢◌, ◌+◌, ◌≤◌, int_lt, pos, Bool, true, false, ◌&&◌, List, [], ◌∷◌, ◌++◌, Some, count_by}
use Rattle.std.specs.List.{list_any}
use Rattle.rr_roster.specs.declared.company.Corp.{Corp}
use Rattle.rr_roster.specs.Terms.{Terms}
use Rattle.rr_roster.specs.Chart.Chart.{Row}
use Rattle.rr_books.specs.declared.parties.Party.TheVariants as P
use Rattle.rr_books.specs.declared.entries.Entry.{Entry}
use Rattle.rr_books.specs.declared.entries.Entry.TheVariants as E
use Rattle.rr_books.specs.declared.entries.Marker.TheVariants as M
use Rattle.rr_books.specs.declared.acts.Act.TheVariants as A
use Rattle.rr_books.specs.Book.{Book, money, train_holder}
use Rattle.rr_books.specs.Same.{same_corp}
use Rattle.rr_market.specs.declared.operations.turn.TurnStep.{TurnStep}
use Rattle.rr_market.specs.Operations.Phases.{phase, rounds_in_set}
use Rattle.rr_market.specs.Operations.Turn.{rank, takes}
use Rattle.rr_market.specs.Operations.Progress.{bank_owed, had_turn, is_operating, progress}
use Rattle.rr_market.specs.Operations.Due.{begins_turn, due}

-- the entry begins an operating round
abbrev pub begins_operating : Entry → Bool
begins_operating (E.Step M.Operating) = true
begins_operating _ = false

-- the entry begins a stock round or the auction, which ends a set of operating rounds
abbrev pub ends_set : Entry → Bool
ends_set (E.Step M.Stock) = true
ends_set (E.Step (M.Auction names)) = true
ends_set _ = false

-- the entry that says that the corporation ends its turn, and whether an entry says so
abbrev pub end : Corp → Entry
end c = E.Step (M.Act (A.End c))

abbrev pub is_end_of : Corp → Entry → Bool
is_end_of c (E.Step (M.Act (A.End d))) = same_corp c d
is_end_of c _ = false

-- a command that the entry tells is one that the step takes
abbrev pub is_taken : TurnStep → Entry → Bool
is_taken step (E.Step (M.Act act)) = takes step act
is_taken step _ = true

-- each command of the entries that follow on a book is one that the step then takes
abbrev pub are_taken : Book → Book → Bool
are_taken book [] = true
are_taken book (e ∷ es) = is_taken (progress book).step e && are_taken (book ++ e ∷ []) es

-- where each command is one that the step takes, a turn's steps never go back
abbrev pub StepsNeverGoBack : Type 0
StepsNeverGoBack =
    (book since : Book) → list_any begins_turn since ≡ false → are_taken book since ≡ true
    → rank (progress book).step ≤ rank (progress (book ++ since)).step

-- whatever is marked on the chart, paid or bought: the corporation due stays until a turn ends or a round begins
abbrev pub DueStays : Type 0
DueStays =
    (rows : List Row) (book since : Book)
    → list_any begins_turn since ≡ false → list_any ends_set since ≡ false
    → due rows (book ++ since) ≡ due rows book

-- a corporation had its turn in an operating round exactly where it said `end` since the round began
abbrev pub TurnsAreOfTheirRound : Type 0
TurnsAreOfTheirRound =
    (before since : Book) (c : Corp) → list_any begins_operating since ≡ false
    → had_turn (progress (before ++ E.Step M.Operating ∷ since)) c ≡ list_any (is_end_of c) since

-- a corporation that had its turn isn't due again until an operating round begins
abbrev pub TurnsComeOnce : Type 0
TurnsComeOnce =
    (rows : List Row) (book since : Book) (c : Corp) → list_any begins_operating since ≡ false
    → due rows (book ++ end c ∷ since) ≢ Some c

-- a set has as many rounds as the phase said when its first one began, and they are counted from 1
pub record SetsKeepTheirLength : Type 0 where
  pub length : (book since : Book) → is_operating (progress book).stage ≡ false → list_any ends_set since ≡ false
      → (progress (book ++ E.Step M.Operating ∷ since)).set_length ≡ rounds_in_set (phase (train_holder book))
  pub count : (book since : Book) → is_operating (progress book).stage ≡ false → list_any ends_set since ≡ false
      → (progress (book ++ E.Step M.Operating ∷ since)).round ≡ 1 + count_by begins_operating since

-- whatever the bank began with, it is told to have owed exactly where it had less than nothing after some front of the book
pub record DebtsAreRemembered : Type 0 where
  pub told : (roster : Terms) (front rest : Book) → int_lt (money roster front P.Bank) (pos 0) ≡ true
      → bank_owed roster (progress (front ++ rest)) ≡ true
  pub only : (roster : Terms) (book : Book) → bank_owed roster (progress book) ≡ true
      → (front : Book) × (rest : Book) × (front ++ rest ≡ book) × (int_lt (money roster front P.Bank) (pos 0) ≡ true)

-- the entry says that a seat is bankrupt
abbrev pub is_bankruptcy : Entry → Bool
is_bankruptcy (E.Step (M.Act (A.Bankrupt s))) = true
is_bankruptcy _ = false

-- a bankruptcy is told exactly where some entry of the book says so
abbrev pub BankruptciesAreRemembered : Type 0
BankruptciesAreRemembered = (book : Book) → (progress book).bankrupt ≡ list_any is_bankruptcy book
