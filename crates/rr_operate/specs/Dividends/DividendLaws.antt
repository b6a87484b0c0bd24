-- What dividends add to a book, and what they do to the money of a table.
use Rattle.std.specs.Prelude.{◌≡◌, ℕ, ◌+◌, ◌*◌, ◌/◌, ◌<◌, ◌≤◌, pos, ◌+ℤ◌, ◌-ℤ◌, false, List, ◌∷◌, ◌++◌, Option, map, option_and_then, sum_by}
use Rattle.std.specs.Option.{option_or}
use Rattle.rr_roster.specs.declared.company.Corp.{Corp}
use Rattle.rr_roster.specs.Chart.Chart.{Row}
use Rattle.rr_books.specs.declared.parties.Money.{Money}
use Rattle.rr_books.specs.declared.parties.Seat.{Seat}
use Rattle.rr_books.specs.declared.parties.Party.TheVariants as P
use Rattle.rr_books.specs.declared.parties.Place.TheVariants as L
use Rattle.rr_books.specs.declared.acts.Act.TheVariants as A
use Rattle.rr_books.specs.declared.entries.Cell.{Cell}
use Rattle.rr_books.specs.declared.entries.Entry.{Entry}
use Rattle.rr_books.specs.declared.entries.Entry.TheVariants as E
use Rattle.rr_books.specs.declared.entries.Marker.TheVariants as M
use Rattle.rr_books.specs.Book.{Book, balance, holder, players}
use Rattle.rr_books.specs.Same.{same_corp}
use Rattle.rr_books.specs.Shares.{Holders, share}
use Rattle.rr_desk.specs.Incomes.{dollars}
use Rattle.rr_market.specs.Marks.{mark_of}
use Rattle.rr_market.specs.Moves.{cell_after_paying, cell_after_withholding, dividend_marks}
use Rattle.rr_operate.specs.Dividends.Dividends.{part, pays_out, seating, withholds}

-- a seat's dividend
abbrev pub seat_dividend : Holders → Corp → Money → Seat → Entry
seat_dividend holders c revenue s = E.Pay P.Bank (P.Seat s) (part revenue (share holders (L.Seat s) c))

-- a dividend is told by the book before it: the command's words, a payment to each seat and one to the corporation for the
-- pool, and the mark of its token, if that moves
abbrev pub EntriesAreThese : Type 0
EntriesAreThese =
    (rows : List Row) (c : Corp) (revenue : Money) (book : Book)
    → pays_out rows c revenue book
    ≡ E.Step (M.Act (A.PayOut c))
    ∷ (map (seat_dividend (holder book) c revenue) (seating (players book))
    ++ E.Pay P.Bank (P.Corp c) (part revenue (share (holder book) L.Pool c))
    ∷ dividend_marks rows c book)

-- how much of a corporation is paid for, in percent: what the seats of the table hold, and what is in the pool
abbrev pub percent_paid : Book → Corp → ℕ
percent_paid book c = sum_by (λ s. share (holder book) (L.Seat s) c) (seating (players book)) + share (holder book) L.Pool c

-- a revenue was paid out: the bank lost the part of the percents that are paid for, each seat gained its part, the
-- corporation the pool's, and no other corporation anything
pub record IsPaidOut (before after : Book) (c : Corp) (revenue : ℕ) : Type 0 where
  pub bank : balance after P.Bank ≡ balance before P.Bank -ℤ pos (revenue * percent_paid before c / 100)
  pub seats : (s : Seat) → s.0 < players before → balance after (P.Seat s) ≡ balance before (P.Seat s) +ℤ pos (revenue * share (holder before) (L.Seat s) c / 100)
  pub corporation : balance after (P.Corp c) ≡ balance before (P.Corp c) +ℤ pos (revenue * share (holder before) L.Pool c / 100)
  pub others : (d : Corp) → same_corp d c ≡ false → balance after (P.Corp d) ≡ balance before (P.Corp d)

-- so it is whatever the bank has, and if it owes, with every revenue that is a multiple of 10
abbrev pub PaysEachHolder : Type 0
PaysEachHolder = (rows : List Row) (book : Book) (c : Corp) (tens : ℕ) → IsPaidOut book (book ++ pays_out rows c (dollars (10 * tens)) book) c (10 * tens)

-- What is paid is never more than the revenue. The offering's part is paid to nobody; and where seats, pool and offering
-- have the whole corporation, nothing else is lacking.
pub record OfferingIsNotPaid (book : Book) (c : Corp) (revenue : ℕ) : Type 0 where
  pub offering : revenue * percent_paid book c / 100 + revenue * share (holder book) L.Offer c / 100 ≤ revenue
  pub whole : percent_paid book c + share (holder book) L.Offer c ≡ 100 → revenue * percent_paid book c / 100 + revenue * share (holder book) L.Offer c / 100 ≡ revenue

abbrev pub NobodyIsPaidForTheOffering : Type 0
NobodyIsPaidForTheOffering = (book : Book) (c : Corp) (tens : ℕ) → OfferingIsNotPaid book c (10 * tens)

-- a revenue was withheld: the corporation has it whole, the bank has lost it, and nothing else has changed hands
pub record IsWithheld (before after : Book) (c : Corp) (revenue : Money) : Type 0 where
  pub bank : balance after P.Bank ≡ balance before P.Bank -ℤ revenue.0
  pub corporation : balance after (P.Corp c) ≡ balance before (P.Corp c) +ℤ revenue.0
  pub seats : (s : Seat) → balance after (P.Seat s) ≡ balance before (P.Seat s)
  pub others : (d : Corp) → same_corp d c ≡ false → balance after (P.Corp d) ≡ balance before (P.Corp d)

abbrev pub WithholdingPaysTheCorporation : Type 0
WithholdingPaysTheCorporation = (rows : List Row) (book : Book) (c : Corp) (revenue : Money) → IsWithheld book (book ++ withholds rows c revenue book) c revenue

-- where a token is that moves from its cell to another, if there is one
abbrev pub moved : (Cell → Option Cell) → Option Cell → Option Cell
moved target cell = option_or (option_and_then target cell) cell

-- a dividend that is paid moves the token right, at the right edge up, one that is withheld left, at the left edge down;
-- without such a cell it stays. All other tokens stay.
pub record TokensMove (rows : List Row) (book : Book) (c : Corp) (revenue : Money) : Type 0 where
  pub paid : mark_of (book ++ pays_out rows c revenue book) c ≡ moved (cell_after_paying rows) (mark_of book c)
  pub withheld : mark_of (book ++ withholds rows c revenue book) c ≡ moved (cell_after_withholding rows) (mark_of book c)
  pub others_of_paid : (d : Corp) → same_corp d c ≡ false → mark_of (book ++ pays_out rows c revenue book) d ≡ mark_of book d
  pub others_of_withheld : (d : Corp) → same_corp d c ≡ false → mark_of (book ++ withholds rows c revenue book) d ≡ mark_of book d

abbrev pub DividendsMoveTokens : Type 0
DividendsMoveTokens = (rows : List Row) (book : Book) (c : Corp) (revenue : Money) → TokensMove rows book c revenue
