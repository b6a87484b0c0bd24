-- Worked commands of stock rounds.
use Rattle.std.specs.Prelude.{◌≡◌, ℕ, ℤ, pos, true, false, List, [], ◌∷◌, ◌++◌, Option, None, Some, fold, map, take}
use Rattle.rr_roster.specs.declared.company.Private.{Private}
use Rattle.rr_roster.specs.declared.company.Corp.{Corp}
use Rattle.rr_roster.specs.Chart.Chart.{Row}
use Rattle.rr_roster.specs.declared.chart.cell.Cell as chart
use Rattle.rr_roster.specs.declared.chart.cell.Zone.TheVariants as Z
use Rattle.rr_books.specs.declared.parties.Seat.{Seat}
use Rattle.rr_books.specs.declared.parties.Party.TheVariants as P
use Rattle.rr_books.specs.declared.parties.Place.{Place}
use Rattle.rr_books.specs.declared.parties.Place.TheVariants as L
use Rattle.rr_books.specs.declared.certificates.ShareNumber.{ShareNumber}
use Rattle.rr_books.specs.declared.certificates.ShareNumber.TheVariants as N
use Rattle.rr_books.specs.declared.certificates.Cert.TheVariants as C
use Rattle.rr_books.specs.declared.entries.Cell.{Cell}
use Rattle.rr_books.specs.declared.entries.Entry.TheVariants as E
use Rattle.rr_books.specs.declared.entries.Marker.TheVariants as M
use Rattle.rr_books.specs.declared.acts.Act.{Act}
use Rattle.rr_books.specs.declared.acts.Act.TheVariants as A
use Rattle.rr_roster.specs.declared.sources.ShareSource.{ShareSource}
use Rattle.rr_roster.specs.declared.sources.ShareSource.TheVariants as S
use Rattle.rr_books.specs.Book.{Book, balance, holder}
use Rattle.rr_books.specs.Shares.{certificates_of, share}
use Rattle.rr_market.specs.Marks.{price_of}
use Rattle.rr_books.specs.declared.refusal.Refusal.{Refusal}
use Rattle.rr_books.specs.declared.refusal.Refusal.TheVariants as F
use Rattle.rr_desk.specs.Incomes.{dollars}
use Rattle.rr_stock.specs.Rules.{verdict}
use Rattle.rr_stock.specs.Effects.{entries_of}

abbrev pub white : ℕ → Option chart.Cell
white n = Some (record { price = n; zone = Z.White; is_par = false })

abbrev pub yellow : ℕ → Option chart.Cell
yellow n = Some (record { price = n; zone = Z.Yellow; is_par = false })

abbrev pub par : ℕ → Option chart.Cell
par n = Some (record { price = n; zone = Z.White; is_par = true })

-- the upper left corner of the chart
abbrev pub corner : List Row
corner =
    (yellow 60 ∷ white 67 ∷ white 71 ∷ white 76 ∷ white 82 ∷ white 90 ∷ par 100 ∷ [])
    ∷ (yellow 53 ∷ yellow 60 ∷ white 66 ∷ white 70 ∷ white 76 ∷ white 82 ∷ par 90 ∷ [])
    ∷ (yellow 46 ∷ yellow 55 ∷ yellow 60 ∷ white 65 ∷ white 70 ∷ white 76 ∷ par 82 ∷ [])
    ∷ []

-- the cell in a row from the top, in the column of these pars
abbrev pub cell_in_row : ℕ → Cell
cell_in_row n = record { row = n; column = 6 }

-- the two players
abbrev pub a : Seat
a = record { 0 = 0 }

abbrev pub b : Seat
b = record { 0 = 1 }

-- two sit down with 600 each, and the PRR's certificates are offered
abbrev pub opening : Book
opening =
    E.Pay P.Bank (P.Seat a) (dollars 600)
    ∷ E.Pay P.Bank (P.Seat b) (dollars 600)
    ∷ map (λ c. E.Move c L.Offer) (certificates_of Corp.Prr)

-- 10% certificates of the PRR go to a place
abbrev pub shares_to : Place → List ShareNumber → Book
shares_to place numbers = map (λ n. E.Move (C.Share Corp.Prr n) place) numbers

-- a is the PRR's president, and has these shares too
abbrev pub president_with : List ShareNumber → Book
president_with numbers = E.Move (C.President Corp.Prr) (L.Seat a) ∷ shares_to (L.Seat a) numbers

-- the book after a command, and after several
abbrev pub after_act : Book → Act → Book
after_act book act = book ++ entries_of corner book act

abbrev pub after_acts : Book → List Act → Book
after_acts book acts = fold after_act book acts

-- the verdict on each of several commands, one given after another
abbrev pub verdicts : Book → List Act → List (Option Refusal)
verdicts book [] = []
verdicts book (act ∷ acts) = verdict corner book act ∷ verdicts (after_act book act) acts

-- a holds half of the PRR, which stands at 100, in the second stock round
abbrev pub before_sale : Book
before_sale =
    opening
    ++ president_with (N.One ∷ N.Two ∷ N.Three ∷ [])
    ++ E.Mark Corp.Prr (cell_in_row 0)
    ∷ E.Step (M.Float Corp.Prr)
    ∷ E.Step M.Stock
    ∷ E.Step M.Operating
    ∷ E.Step M.Stock
    ∷ []

abbrev pub sale_of_two : Act
sale_of_two = A.Sell a Corp.Prr 2

-- a sells two PRR: it gets 200, and the price falls to 82
pub record WorkedSale : Type 0 where
  pub lawful : verdict corner before_sale sale_of_two ≡ None
  pub entries : entries_of corner before_sale sale_of_two ≡ E.Step (M.Act sale_of_two)
      ∷ E.Move (C.Share Corp.Prr N.One) L.Pool
      ∷ E.Move (C.Share Corp.Prr N.Two) L.Pool
      ∷ E.Pay P.Bank (P.Seat a) (dollars 200)
      ∷ E.Mark Corp.Prr (cell_in_row 2)
      ∷ []
  pub price : price_of corner (after_act before_sale sale_of_two) Corp.Prr ≡ Some 82

-- a and b hold 40% of the PRR each, a is its president, and b is in turn
abbrev pub before_presidency : Book
before_presidency =
    opening
    ++ president_with (N.One ∷ N.Two ∷ [])
    ++ shares_to (L.Seat b) (N.Three ∷ N.Four ∷ N.Five ∷ N.Six ∷ [])
    ++ E.Mark Corp.Prr (cell_in_row 0)
    ∷ E.Step (M.Float Corp.Prr)
    ∷ E.Step M.Stock
    ∷ E.Step (M.Act (A.Done a))
    ∷ []

abbrev pub fifth_share : Act
fifth_share = A.BuyShare b Corp.Prr S.Offer

-- two sit down with 600 each, and the NYC's certificates, whose par is 100, are offered
abbrev pub opening_of_nyc : Book
opening_of_nyc =
    E.Pay P.Bank (P.Seat a) (dollars 600)
    ∷ E.Pay P.Bank (P.Seat b) (dollars 600)
    ∷ map (λ c. E.Move c L.Offer) (certificates_of Corp.Nyc)
    ++ E.Mark Corp.Nyc (cell_in_row 0)
    ∷ []

-- a is the NYC's president with 20%, b has as much and the M&H, the pool has 10%, and b is in turn
abbrev pub before_swap : Book
before_swap =
    opening_of_nyc
    ++ E.Move (C.President Corp.Nyc) (L.Seat a)
    ∷ E.Move (C.Share Corp.Nyc N.One) (L.Seat b)
    ∷ E.Move (C.Share Corp.Nyc N.Two) (L.Seat b)
    ∷ E.Move (C.Share Corp.Nyc N.Three) L.Pool
    ∷ E.Move (C.Private Private.Mh) (L.Seat b)
    ∷ E.Step M.Stock
    ∷ E.Step (M.Act (A.Done a))
    ∷ []

-- a holds 60% of the NYC and the M&H, and is in turn
abbrev pub sixty_of_nyc : Book
sixty_of_nyc =
    opening_of_nyc
    ++ E.Move (C.President Corp.Nyc) (L.Seat a)
    ∷ map (λ n. E.Move (C.Share Corp.Nyc n) (L.Seat a)) (N.One ∷ N.Two ∷ N.Three ∷ N.Four ∷ [])
    ++ E.Move (C.Private Private.Mh) (L.Seat a)
    ∷ E.Step M.Stock
    ∷ E.Step (M.Act (A.Done b))
    ∷ []

abbrev pub swap_from : ShareSource → Act
swap_from source = A.Swap b source

-- b buys a fifth share and gets the presidency for two of its shares: a keeps 40%, and b has 50%; b gives up the M&H
-- for a third share of the NYC and gets that presidency too: with a share of the offer 60% has left it and the NYC
-- floats, with one of the pool it doesn't; nobody gets more than 60% for the M&H
pub record WorkedPresidency : Type 0 where
  pub lawful : verdict corner before_presidency fifth_share ≡ None
  pub entries : entries_of corner before_presidency fifth_share ≡ E.Step (M.Act fifth_share)
      ∷ E.Move (C.Share Corp.Prr N.Seven) (L.Seat b)
      ∷ E.Pay (P.Seat b) P.Bank (dollars 100)
      ∷ E.Move (C.Share Corp.Prr N.Three) (L.Seat a)
      ∷ E.Move (C.Share Corp.Prr N.Four) (L.Seat a)
      ∷ E.Move (C.President Corp.Prr) (L.Seat b)
      ∷ []
  pub percents : map (λ s. share (holder (after_act before_presidency fifth_share)) (L.Seat s) Corp.Prr) (a ∷ b ∷ []) ≡ 40 ∷ 50 ∷ []
  pub swap : verdict corner before_swap (swap_from S.Offer) ≡ None
  pub swap_entries : entries_of corner before_swap (swap_from S.Offer) ≡ E.Step (M.Act (swap_from S.Offer))
      ∷ E.Move (C.Private Private.Mh) L.Gone
      ∷ E.Move (C.Share Corp.Nyc N.Four) (L.Seat b)
      ∷ E.Move (C.Share Corp.Nyc N.One) (L.Seat a)
      ∷ E.Move (C.Share Corp.Nyc N.Two) (L.Seat a)
      ∷ E.Move (C.President Corp.Nyc) (L.Seat b)
      ∷ E.Pay P.Bank (P.Corp Corp.Nyc) (dollars 1000)
      ∷ E.Step (M.Float Corp.Nyc)
      ∷ []
  pub swap_of_pool : entries_of corner before_swap (swap_from S.Pool) ≡ E.Step (M.Act (swap_from S.Pool))
      ∷ E.Move (C.Private Private.Mh) L.Gone
      ∷ E.Move (C.Share Corp.Nyc N.Three) (L.Seat b)
      ∷ E.Move (C.Share Corp.Nyc N.One) (L.Seat a)
      ∷ E.Move (C.Share Corp.Nyc N.Two) (L.Seat a)
      ∷ E.Move (C.President Corp.Nyc) (L.Seat b)
      ∷ []
  pub swap_over_sixty : verdict corner sixty_of_nyc (A.Swap a S.Offer) ≡ Some F.OverSixty

-- a has 580 as the first stock round begins
abbrev pub before_par : Book
before_par = opening ++ E.Pay (P.Seat a) P.Bank (dollars 20) ∷ E.Step M.Stock ∷ []

abbrev pub par_of_100 : Act
par_of_100 = A.Par a Corp.Prr 100

-- a sets the PRR's par at 100, which leaves it 380
pub record WorkedPar : Type 0 where
  pub lawful : verdict corner before_par par_of_100 ≡ None
  pub entries : entries_of corner before_par par_of_100 ≡ E.Step (M.Act par_of_100)
      ∷ E.Mark Corp.Prr (cell_in_row 0)
      ∷ E.Move (C.President Corp.Prr) (L.Seat a)
      ∷ E.Pay (P.Seat a) P.Bank (dollars 200)
      ∷ []
  pub money : balance (after_act before_par par_of_100) (P.Seat a) ≡ pos 380

-- a holds 40% of the PRR, whose par is 100, and the rest is on offer
abbrev pub before_float : Book
before_float = opening ++ president_with (N.One ∷ N.Two ∷ []) ++ E.Mark Corp.Prr (cell_in_row 0) ∷ E.Step M.Stock ∷ []

-- three shares more are bought
abbrev pub three_purchases : List Act
three_purchases =
    A.BuyShare a Corp.Prr S.Offer
    ∷ A.Done a
    ∷ A.BuyShare b Corp.Prr S.Offer
    ∷ A.Done b
    ∷ A.BuyShare a Corp.Prr S.Offer
    ∷ []

abbrev pub capital_after : ℕ → ℤ
capital_after n = balance (after_acts before_float (take n three_purchases)) (P.Corp Corp.Prr)

-- the PRR gets 1,000 as 60% has left the offer, and only then
pub record WorkedFloat : Type 0 where
  pub lawful : verdicts before_float three_purchases ≡ None ∷ None ∷ None ∷ None ∷ None ∷ []
  pub capital : map capital_after (1 ∷ 3 ∷ 5 ∷ []) ≡ pos 0 ∷ pos 1000 ∷ pos 1000 ∷ []

-- the PRR is sold out at 90, b holds the first private, and a has passed
abbrev pub before_end : Book
before_end =
    opening
    ++ president_with (N.One ∷ N.Two ∷ N.Three ∷ N.Four ∷ [])
    ++ shares_to (L.Seat b) (N.Five ∷ N.Six ∷ N.Seven ∷ N.Eight ∷ [])
    ++ E.Mark Corp.Prr (cell_in_row 1)
    ∷ E.Step (M.Float Corp.Prr)
    ∷ E.Step M.Stock
    ∷ E.Move (C.Private Private.Sv) (L.Seat b)
    ∷ E.Step (M.Act (A.Done a))
    ∷ []

-- b passes too: the round ends, the PRR goes up to 100, and an operating round begins
pub record WorkedEnd : Type 0 where
  pub lawful : verdict corner before_end (A.Done b) ≡ None
  pub entries : entries_of corner before_end (A.Done b) ≡ E.Step (M.Act (A.Done b))
      ∷ E.Mark Corp.Prr (cell_in_row 0)
      ∷ E.Step M.Operating
      ∷ []
  pub price : price_of corner (after_act before_end (A.Done b)) Corp.Prr ≡ Some 100
