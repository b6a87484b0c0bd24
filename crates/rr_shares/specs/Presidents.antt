-- What is true of presidents, whatever the book.
use Rattle.std.specs.Prelude.{◌≡◌, ℕ, ◌<◌, ◌≤◌, true, ◌++◌, Some, MatchOption, is_some, length, slice_index}
use Rattle.rr_roster.specs.declared.company.Corp.{Corp}
use Rattle.rr_books.specs.declared.parties.Seat.{Seat}
use Rattle.rr_books.specs.declared.parties.Place.TheVariants as L
use Rattle.rr_books.specs.declared.certificates.Cert.TheVariants as C
use Rattle.rr_books.specs.Book.{Book, holder, players}
use Rattle.rr_books.specs.Shares.{president, share}
use Rattle.rr_shares.specs.Holdings.{Percents, heir, percent_in}
use Rattle.rr_shares.specs.Effects.{presidency, sale_shares}

-- a corporation that had a president still has one when the presidency was settled
abbrev pub StaysWithASeat : Type 0
StaysWithASeat =
    (c : Corp) (book : Book) → is_some (president (holder book) c) ≡ true
    → is_some (president (holder (book ++ presidency c book)) c) ≡ true

-- a corporation that had a president still has one when shares were sold
abbrev pub SalesKeepAPresident : Type 0
SalesKeepAPresident =
    (c : Corp) (seller : Seat) (n : ℕ) (book : Book) → is_some (president (holder book) c) ≡ true
    → is_some (president (holder (book ++ sale_shares c seller n book)) c) ≡ true

-- no seat of a table of n has more than this one
abbrev pub HasTheMost : Percents → ℕ → Seat → Type 0
HasTheMost row n s = (k : ℕ) → k < n → slice_index row k ≤ percent_in row s

-- an heir is at the table, has more than the president, and the most of all; without one the president has the most
abbrev pub HeirHasTheMost : Type 0
HeirHasTheMost =
    (row : Percents) (n : ℕ) (president : Seat) → president.0 < n → n ≤ length row
    → MatchOption (heir row n president) (HasTheMost row n president) (λ s. (s.0 < n) × (percent_in row president < percent_in row s) × HasTheMost row n s)

-- the seat has the corporation's 20% certificate
abbrev pub IsPresident : Book → Corp → Seat → Type 0
IsPresident book c p = holder book (C.President c) ≡ Some (L.Seat p)

-- no seat of a table of n holds more of the corporation than this one
abbrev pub NobodyHasMore : Book → Corp → ℕ → Seat → Type 0
NobodyHasMore book c n p = (s : Seat) → s.0 < n → share (holder book) (L.Seat s) c ≤ share (holder book) (L.Seat p) c

-- where a seat of the table was president, one is when the presidency was settled, and nobody holds more than that one
abbrev pub PresidentHasTheMost : Type 0
PresidentHasTheMost =
    (c : Corp) (book : Book) (p : Seat) → IsPresident book c p → p.0 < players book → players book ≤ 6
    → (q : Seat) × IsPresident (book ++ presidency c book) c q × NobodyHasMore (book ++ presidency c book) c (players book) q
