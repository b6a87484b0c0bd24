-- Worked dividends.
use Rattle.std.specs.Prelude.{◌≡◌, ℕ, pos, negsuc, false, List, [], ◌∷◌, ◌++◌, Option, Some, map}
use Rattle.rr_roster.specs.declared.company.Corp.{Corp}
use Rattle.rr_roster.specs.Chart.Chart.{Row}
use Rattle.rr_roster.specs.declared.chart.cell.Cell as chart
use Rattle.rr_roster.specs.declared.chart.cell.Zone.TheVariants as Z
use Rattle.rr_books.specs.declared.parties.Seat.{Seat}
use Rattle.rr_books.specs.declared.parties.Party.TheVariants as P
use Rattle.rr_books.specs.declared.parties.Place.{Place}
use Rattle.rr_books.specs.declared.parties.Place.TheVariants as L
use Rattle.rr_books.specs.declared.certificates.ShareNumber.{ShareNumber}
use Rattle.rr_books.specs.declared.certificates.ShareNumber.TheVariants as N
use Rattle.rr_books.specs.declared.certificates.Cert.TheVariants as C
use Rattle.rr_books.specs.declared.acts.Act.TheVariants as A
use Rattle.rr_books.specs.declared.entries.Cell.{Cell}
use Rattle.rr_books.specs.declared.entries.Entry.TheVariants as E
use Rattle.rr_books.specs.declared.entries.Marker.TheVariants as M
use Rattle.rr_books.specs.Book.{Book, balance, iou, money}
use Rattle.rr_books.specs.Shares.{certificates_of}
use Rattle.rr_desk.specs.Incomes.{dollars}
use Rattle.rr_operate.specs.Dividends.Dividends.{pays_out, withholds}
use Rattle.rr_operate.specs.Sets.WorkedSets.{usual_terms}

abbrev pub cell : ℕ → Option chart.Cell
cell price = Some (record { price = price; zone = Z.White; is_par = false })

-- two rows of two cells: 60 and 67, and below them 53 and 60
abbrev pub rows : List Row
rows = (cell 60 ∷ cell 67 ∷ []) ∷ (cell 53 ∷ cell 60 ∷ []) ∷ []

abbrev pub at : ℕ → ℕ → Cell
at row column = record { row = row; column = column }

-- the two players
abbrev pub a : Seat
a = record { 0 = 0 }

abbrev pub b : Seat
b = record { 0 = 1 }

abbrev pub shares_to : Place → List ShareNumber → Book
shares_to place numbers = map (λ n. E.Move (C.Share Corp.Prr n) place) numbers

-- two sit down with 1,200 each; a holds 60% of the PRR, the pool 20%, the offering 20%; the bank paid so much elsewhere,
-- and the PRR's token is at this cell
abbrev pub table : ℕ → Cell → Book
table spent place =
    E.Pay P.Bank (P.Seat a) (dollars 1200)
    ∷ E.Pay P.Bank (P.Seat b) (dollars 1200)
    ∷ map (λ c. E.Move c L.Offer) (certificates_of Corp.Prr)
    ++ E.Move (C.President Corp.Prr) (L.Seat a)
    ∷ shares_to (L.Seat a) (N.One ∷ N.Two ∷ N.Three ∷ N.Four ∷ [])
    ++ shares_to L.Pool (N.Five ∷ N.Six ∷ [])
    ++ E.Pay P.Bank (P.Corp Corp.Nyc) (dollars spent)
    ∷ E.Mark Corp.Prr place
    ∷ []

-- The PRR at 53 pays 100 out: a gains 60, b nothing, the PRR 20, and nobody gets the offering's 20. The bank loses 80. The
-- token goes right, to 60.
pub record WorkedDividend : Type 0 where
  pub entries : pays_out rows Corp.Prr (dollars 100) (table 0 (at 1 0)) ≡ E.Step (M.Act (A.PayOut Corp.Prr))
      ∷ E.Pay P.Bank (P.Seat a) (dollars 60)
      ∷ E.Pay P.Bank (P.Seat b) (dollars 0)
      ∷ E.Pay P.Bank (P.Corp Corp.Prr) (dollars 20)
      ∷ E.Mark Corp.Prr (at 1 1)
      ∷ []
  pub bank_before : money usual_terms (table 0 (at 1 0)) P.Bank ≡ pos 9600
  pub bank : money usual_terms (table 0 (at 1 0) ++ pays_out rows Corp.Prr (dollars 100) (table 0 (at 1 0))) P.Bank ≡ pos 9520
  pub seat : balance (table 0 (at 1 0) ++ pays_out rows Corp.Prr (dollars 100) (table 0 (at 1 0))) (P.Seat a) ≡ pos 1260
  pub corporation : balance (table 0 (at 1 0) ++ pays_out rows Corp.Prr (dollars 100) (table 0 (at 1 0))) (P.Corp Corp.Prr) ≡ pos 20

-- A bank with 50 pays as well, and owes 30 then.
pub record WorkedDebt : Type 0 where
  pub before : money usual_terms (table 9550 (at 1 0)) P.Bank ≡ pos 50
  pub bank : money usual_terms (table 9550 (at 1 0) ++ pays_out rows Corp.Prr (dollars 100) (table 9550 (at 1 0))) P.Bank ≡ negsuc 29
  pub owed : iou usual_terms (table 9550 (at 1 0) ++ pays_out rows Corp.Prr (dollars 100) (table 9550 (at 1 0))) ≡ 30
  pub seat : balance (table 9550 (at 1 0) ++ pays_out rows Corp.Prr (dollars 100) (table 9550 (at 1 0))) (P.Seat a) ≡ pos 1260

-- At the right edge a token goes up; without a cell above it stays, and there is no mark.
pub record WorkedEdge : Type 0 where
  pub up : pays_out rows Corp.Prr (dollars 100) (table 0 (at 1 1)) ≡ E.Step (M.Act (A.PayOut Corp.Prr))
      ∷ E.Pay P.Bank (P.Seat a) (dollars 60)
      ∷ E.Pay P.Bank (P.Seat b) (dollars 0)
      ∷ E.Pay P.Bank (P.Corp Corp.Prr) (dollars 20)
      ∷ E.Mark Corp.Prr (at 0 1)
      ∷ []
  pub stays : pays_out rows Corp.Prr (dollars 100) (table 0 (at 0 1)) ≡ E.Step (M.Act (A.PayOut Corp.Prr))
      ∷ E.Pay P.Bank (P.Seat a) (dollars 60)
      ∷ E.Pay P.Bank (P.Seat b) (dollars 0)
      ∷ E.Pay P.Bank (P.Corp Corp.Prr) (dollars 20)
      ∷ []

-- What is withheld goes to the corporation whole, and its token left, at the left edge down; without a cell below it
-- stays. Without a run the payment is one of 0.
pub record WorkedWithholding : Type 0 where
  pub left : withholds rows Corp.Prr (dollars 100) (table 0 (at 0 1)) ≡ E.Step (M.Act (A.Hold Corp.Prr))
      ∷ E.Pay P.Bank (P.Corp Corp.Prr) (dollars 100)
      ∷ E.Mark Corp.Prr (at 0 0)
      ∷ []
  pub down : withholds rows Corp.Prr (dollars 0) (table 0 (at 0 0)) ≡ E.Step (M.Act (A.Hold Corp.Prr))
      ∷ E.Pay P.Bank (P.Corp Corp.Prr) (dollars 0)
      ∷ E.Mark Corp.Prr (at 1 0)
      ∷ []
  pub stays : withholds rows Corp.Prr (dollars 0) (table 0 (at 1 0)) ≡ E.Step (M.Act (A.Hold Corp.Prr))
      ∷ E.Pay P.Bank (P.Corp Corp.Prr) (dollars 0)
      ∷ []
