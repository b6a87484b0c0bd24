-- What a corporation's run comes to: its revenue is paid out to those who hold its shares, or the corporation keeps it.
use Rattle.std.specs.Prelude.{ℕ, pos, ◌*ℤ◌, int_div, int_lt, List, [], ◌∷◌, Option, None, Some, map, if◌then◌else◌}
use Rattle.std.specs.List.{range_with_len}
use Rattle.rr_roster.specs.declared.company.Corp.{Corp}
use Rattle.rr_roster.specs.Chart.Chart.{Row}
use Rattle.rr_books.specs.declared.parties.Money.{Money}
use Rattle.rr_books.specs.declared.parties.Seat.{Seat}
use Rattle.rr_books.specs.declared.parties.Party.{Party}
use Rattle.rr_books.specs.declared.parties.Party.TheVariants as P
use Rattle.rr_books.specs.declared.parties.Place.{Place}
use Rattle.rr_books.specs.declared.parties.Place.TheVariants as L
use Rattle.rr_books.specs.declared.acts.Act.{Act}
use Rattle.rr_books.specs.declared.acts.Act.TheVariants as A
use Rattle.rr_books.specs.declared.entries.Cell.{Cell}
use Rattle.rr_books.specs.declared.entries.Entry.TheVariants as E
use Rattle.rr_books.specs.declared.entries.Marker.TheVariants as M
use Rattle.rr_books.specs.Book.{holder, players}
use Rattle.rr_books.specs.Shares.{share}
use Rattle.rr_desk.specs.Effects.{Effect, adds, in_turn}
use Rattle.rr_market.specs.Moves.{dividend_marks, mark_at, withholding_marks}
use Rattle.rr_books.specs.declared.refusal.Refusal.{Refusal}
use Rattle.rr_books.specs.declared.refusal.Refusal.TheVariants as F

-- the verdict on paying out: a corporation without revenue has nothing to pay
abbrev pub pay_verdict : Money → Option Refusal
pay_verdict revenue = if int_lt (pos 0) revenue.0 then None else Some F.WrongStep

-- the part of an amount that falls to so many percent
abbrev pub part : Money → ℕ → Money
part amount percent = record { 0 = int_div (amount.0 *ℤ pos percent) (pos 100) }

-- the command's words are taken down
abbrev pub says : Act → Effect
says act = adds (E.Step (M.Act act))

-- the corporation's token is put on a cell, if there is one
abbrev pub marks : Corp → Option Cell → Effect
marks c to book = mark_at c to

-- the bank pays a party for the shares of the corporation that are at a place, be it 0
unfoldable pub pays_for : Corp → Money → Place → Party → Effect
pays_for c revenue place payee book = adds (E.Pay P.Bank payee (part revenue (share (holder book) place c))) book

-- a seat is paid for its own shares
abbrev pub pays_seat : Corp → Money → Seat → Effect
pays_seat c revenue s = pays_for c revenue (L.Seat s) (P.Seat s)

-- the seats of a table of n players, in seating order
abbrev pub seating : ℕ → List Seat
seating n = map (λ k. record { 0 = k }) (range_with_len 0 n)

-- every seat of the table is paid, in seating order
unfoldable pub pays_seats : Corp → Money → Effect
pays_seats c revenue book = in_turn (map (pays_seat c revenue) (seating (players book))) book

-- the corporation pays its revenue out: the seats are paid, and the corporation for the shares in the pool; nobody for
-- those in the offering. Then its token moves.
unfoldable pub pays_out : List Row → Corp → Money → Effect
pays_out rows c revenue =
    in_turn (says (A.PayOut c) ∷ pays_seats c revenue ∷ pays_for c revenue L.Pool (P.Corp c) ∷ dividend_marks rows c ∷ [])

-- the corporation keeps its revenue, 0 without a run, and its token moves
unfoldable pub withholds : List Row → Corp → Money → Effect
withholds rows c revenue = in_turn (says (A.Hold c) ∷ adds (E.Pay P.Bank (P.Corp c) revenue) ∷ withholding_marks rows c ∷ [])
