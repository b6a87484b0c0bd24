-- The money of a table at which lawful acts of the auction are played.
use Rattle.std.specs.Prelude.{◌≡◌, ℕ, ◌≤◌, pos, ◌≤ℤ◌, List, [], ◌∷◌, ◌++◌, None, fold, length, ⊤}
use Rattle.rr_roster.specs.declared.company.Corp.{Corp}
use Rattle.rr_roster.specs.Terms.{Terms, bank_of}
use Rattle.rr_roster.specs.Chart.Chart.{Row}
use Rattle.rr_books.specs.declared.acts.Act.{Act}
use Rattle.rr_books.specs.declared.parties.Seat.{Seat}
use Rattle.rr_books.specs.declared.parties.Party.TheVariants as P
use Rattle.rr_books.specs.Book.{Book, money}
use Rattle.rr_books.specs.Totals.{parties, sum_over}
use Rattle.rr_auction.specs.Effects.{entries_of}
use Rattle.rr_auction.specs.Opening.{opened}
use Rattle.rr_auction.specs.Rules.{verdict}

-- a book once an act is taken down
abbrev pub with_act : Terms → List Row → Book → Act → Book
with_act roster rows book act = book ++ entries_of roster rows book act

-- a book once these acts are taken down, one after another
abbrev pub with_acts : Terms → List Row → Book → List Act → Book
with_acts roster rows book acts = fold (with_act roster rows) book acts

-- no act is refused in the book that the acts before it made
abbrev pub AreLawful : Terms → List Row → Book → List Act → Type 0
AreLawful roster rows book [] = ⊤
AreLawful roster rows book (act ∷ acts) = (verdict roster rows book act ≡ None) × AreLawful roster rows (with_act roster rows book act) acts

-- bank, seats and corporations have together what the bank began with, and no one but the bank has less than nothing
pub record HasSoundMoney (roster : Terms) (players : ℕ) (book : Book) : Type 0 where
  pub together : sum_over (money roster book) (parties players) ≡ pos (bank_of roster)
  pub seats : (s : Seat) → pos 0 ≤ℤ money roster book (P.Seat s)
  pub corporations : (c : Corp) → pos 0 ≤ℤ money roster book (P.Corp c)

-- a table of two players or more has sound money after whatever lawful acts, whatever its chart and the numbers of its
-- roster
abbrev pub MoneyStays : Type 0
MoneyStays =
    (roster : Terms) (rows : List Row) (names : List (List ℕ)) (acts : List Act) → 2 ≤ length names
    → AreLawful roster rows (opened names roster) acts
    → HasSoundMoney roster (length names) (with_acts roster rows (opened names roster) acts)
