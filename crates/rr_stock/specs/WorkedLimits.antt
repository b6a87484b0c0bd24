-- Worked refusals of stock rounds: more than 60%, who has to sell first, several purchases in a turn, and who follows a
-- president.
use Rattle.std.specs.Prelude.{◌≡◌, false, List, [], ◌∷◌, ◌++◌, Option, None, Some, map}
use Rattle.rr_roster.specs.declared.company.Corp.{Corp}
use Rattle.rr_roster.specs.Chart.Chart.{Row}
use Rattle.rr_roster.specs.declared.chart.cell.Cell as chart
use Rattle.rr_roster.specs.declared.chart.cell.Zone.{Zone}
use Rattle.rr_roster.specs.declared.chart.cell.Zone.TheVariants as Z
use Rattle.rr_books.specs.declared.parties.Party.TheVariants as P
use Rattle.rr_books.specs.declared.parties.Place.TheVariants as L
use Rattle.rr_books.specs.declared.certificates.ShareNumber.{ShareNumber}
use Rattle.rr_books.specs.declared.certificates.ShareNumber.TheVariants as N
use Rattle.rr_books.specs.declared.certificates.Cert.TheVariants as C
use Rattle.rr_books.specs.declared.entries.Entry.TheVariants as E
use Rattle.rr_books.specs.declared.entries.Marker.TheVariants as M
use Rattle.rr_books.specs.declared.acts.Act.{Act}
use Rattle.rr_books.specs.declared.acts.Act.TheVariants as A
use Rattle.rr_roster.specs.declared.sources.ShareSource.TheVariants as S
use Rattle.rr_books.specs.Book.{Book}
use Rattle.rr_desk.specs.Incomes.{dollars}
use Rattle.rr_books.specs.declared.refusal.Refusal.{Refusal}
use Rattle.rr_books.specs.declared.refusal.Refusal.TheVariants as F
use Rattle.rr_stock.specs.Rules.{verdict}
use Rattle.rr_stock.specs.Effects.{entries_of}
use Rattle.rr_stock.specs.WorkedRounds.{a, b, cell_in_row, corner, opening, par, president_with, shares_to}

-- cells in the column of these pars alone
abbrev pub column_of : List (Option chart.Cell) → List Row
column_of cells = map (λ cell. None ∷ None ∷ None ∷ None ∷ None ∷ None ∷ cell ∷ []) cells

-- a chart with a par of 100 and, below it, a cell of this zone
abbrev pub above : Zone → List Row
above zone = column_of (par 100 ∷ Some (record { price = 40; zone = zone; is_par = false }) ∷ [])

-- the PRR's token stands at its par
abbrev pub at_par : Book
at_par = E.Mark Corp.Prr (cell_in_row 0) ∷ E.Step (M.Float Corp.Prr) ∷ []

-- it has fallen to the cell below
abbrev pub below_par : Book
below_par = at_par ++ E.Mark Corp.Prr (cell_in_row 1) ∷ []

-- a is in turn in the first stock round, and in the second one
abbrev pub first_round : Book
first_round = E.Step M.Stock ∷ []

abbrev pub second_round : Book
second_round = E.Step M.Stock ∷ E.Step M.Operating ∷ E.Step M.Stock ∷ []

-- the verdicts on several commands, each given in this book
abbrev pub verdicts_in : List Row → Book → List Act → List (Option Refusal)
verdicts_in rows book acts = map (verdict rows book) acts

-- a share of the PRR more for a, from the offer or from the pool
abbrev pub from_offer : Act
from_offer = A.BuyShare a Corp.Prr S.Offer

abbrev pub from_pool : Act
from_pool = A.BuyShare a Corp.Prr S.Pool

-- a holds 60% of the PRR
abbrev pub with_sixty : Book
with_sixty = opening ++ president_with (N.One ∷ N.Two ∷ N.Three ∷ N.Four ∷ [])

-- nobody buys more than 60% in white and yellow, also where the money isn't there, and in orange and brown anybody may
pub record WorkedSixty : Type 0 where
  pub white : verdict (above Z.Orange) (with_sixty ++ at_par ++ first_round) from_offer ≡ Some F.OverSixty
  pub yellow : verdict (above Z.Yellow) (with_sixty ++ below_par ++ first_round) from_offer ≡ Some F.OverSixty
  pub orange : verdict (above Z.Orange) (with_sixty ++ below_par ++ first_round) from_offer ≡ None
  pub brown : verdict (above Z.Brown) (with_sixty ++ below_par ++ first_round) from_offer ≡ None
  pub poor : verdict (above Z.Orange) (with_sixty ++ E.Pay (P.Seat a) P.Bank (dollars 600) ∷ at_par ++ first_round) from_offer ≡ Some F.OverSixty

-- a holds 70% of the PRR
abbrev pub with_seventy : Book
with_seventy = opening ++ president_with (N.One ∷ N.Two ∷ N.Three ∷ N.Four ∷ N.Five ∷ [])

-- it has sold one of them in the second stock round, and holds 60%
abbrev pub sold_to_sixty : Book
sold_to_sixty = with_seventy ++ at_par ++ second_round ++ entries_of corner (with_seventy ++ at_par ++ second_round) (A.Sell a Corp.Prr 1)

-- a purchase, the end of the turn, and a sale
abbrev pub three_ways : List Act
three_ways = from_offer ∷ A.Done a ∷ A.Sell a Corp.Prr 1 ∷ []

-- who has more than 60% in white has to sell before all else, but not in the first stock round, in which nobody sells,
-- and not in orange; what it sold it doesn't buy back in that round, which is told before the 60%
pub record WorkedMustSell : Type 0 where
  pub white : verdicts_in (above Z.Orange) (with_seventy ++ at_par ++ second_round) three_ways ≡ Some F.MustSellFirst ∷ Some F.MustSellFirst ∷ None ∷ []
  pub first : verdicts_in (above Z.Orange) (with_seventy ++ at_par ++ first_round) three_ways ≡ Some F.OverSixty ∷ None ∷ Some F.FirstStockRound ∷ []
  pub orange : verdicts_in (above Z.Orange) (with_seventy ++ below_par ++ second_round) three_ways ≡ None ∷ None ∷ None ∷ []
  pub sold : verdict corner sold_to_sixty from_offer ≡ Some F.SoldThisRound

-- a has bought a share from the pool, which still has two, on a chart on which the PRR stands in this zone
abbrev pub pool_of_three : Book
pool_of_three = opening ++ president_with (N.Four ∷ []) ++ shares_to L.Pool (N.One ∷ N.Two ∷ N.Three ∷ []) ++ below_par ++ first_round

abbrev pub bought_from_pool : Zone → Book
bought_from_pool zone = pool_of_three ++ entries_of (above zone) pool_of_three from_pool

-- several shares in a turn are bought in brown alone, and all from the pool
pub record WorkedSecondPurchase : Type 0 where
  pub brown : verdicts_in (above Z.Brown) (bought_from_pool Z.Brown) (from_pool ∷ from_offer ∷ []) ≡ None ∷ Some F.SecondPurchase ∷ []
  pub orange : verdicts_in (above Z.Orange) (bought_from_pool Z.Orange) (from_pool ∷ from_offer ∷ []) ≡ Some F.SecondPurchase ∷ Some F.SecondPurchase ∷ []

-- a is the PRR's president with 30%, b has these shares, and it is the second stock round
abbrev pub beside : List ShareNumber → Book
beside numbers = opening ++ president_with (N.One ∷ []) ++ shares_to (L.Seat b) numbers ++ at_par ++ second_round

abbrev pub sale_of_two : Act
sale_of_two = A.Sell a Corp.Prr 2

-- a president goes below 20% only where another player has 20%, and becomes president: it gives two shares for the 20%,
-- and the seller sells the lowest that it has then
pub record WorkedSuccession : Type 0 where
  pub nobody : verdict corner (beside (N.Two ∷ [])) sale_of_two ≡ Some F.NotForSale
  pub lawful : verdict corner (beside (N.Two ∷ N.Three ∷ [])) sale_of_two ≡ None
  pub entries : entries_of corner (beside (N.Two ∷ N.Three ∷ [])) sale_of_two ≡ E.Step (M.Act sale_of_two)
      ∷ E.Move (C.Share Corp.Prr N.Two) (L.Seat a)
      ∷ E.Move (C.Share Corp.Prr N.Three) (L.Seat a)
      ∷ E.Move (C.President Corp.Prr) (L.Seat b)
      ∷ E.Move (C.Share Corp.Prr N.One) L.Pool
      ∷ E.Move (C.Share Corp.Prr N.Two) L.Pool
      ∷ E.Pay P.Bank (P.Seat a) (dollars 200)
      ∷ E.Mark Corp.Prr (cell_in_row 2)
      ∷ []
