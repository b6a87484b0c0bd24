-- A president that sells shares for a train, and one that is bankrupt, worked.
use Rattle.std.specs.Prelude.{◌≡◌, ℕ, false, List, [], ◌∷◌, ◌++◌, Option, None, Some, map}
use Rattle.rr_roster.specs.declared.company.Corp.{Corp}
use Rattle.rr_roster.specs.Chart.Chart.{Row}
use Rattle.rr_roster.specs.declared.chart.cell.Cell as chart
use Rattle.rr_roster.specs.declared.chart.cell.Zone.TheVariants as Z
use Rattle.rr_books.specs.declared.parties.Party.TheVariants as P
use Rattle.rr_books.specs.declared.parties.Place.{Place}
use Rattle.rr_books.specs.declared.parties.Place.TheVariants as L
use Rattle.rr_books.specs.declared.certificates.ShareNumber.{ShareNumber}
use Rattle.rr_books.specs.declared.certificates.ShareNumber.TheVariants as N
use Rattle.rr_books.specs.declared.certificates.Cert.TheVariants as C
use Rattle.rr_books.specs.declared.entries.Cell.{Cell}
use Rattle.rr_books.specs.declared.entries.Entry.TheVariants as E
use Rattle.rr_books.specs.declared.entries.Marker.TheVariants as M
use Rattle.rr_books.specs.declared.acts.Act.TheVariants as A
use Rattle.rr_books.specs.Book.{Book}
use Rattle.rr_desk.specs.Incomes.{dollars}
use Rattle.rr_trains.specs.WorkedTrains.{usual_terms}
use Rattle.rr_trains.specs.Depot.Situation.{situation_of}
use Rattle.rr_shares.specs.Limits.Holdings.{holdings_of}
use Rattle.rr_books.specs.declared.refusal.Refusal.{Refusal}
use Rattle.rr_books.specs.declared.refusal.Refusal.TheVariants as F
use Rattle.rr_rules.specs.declared.forced.needs.Need.{Need}
use Rattle.rr_rules.specs.Forced.Needs.{cheapest_need}
use Rattle.rr_rules.specs.Forced.Sales.{bankrupt_verdict, can_raise, raise_verdict}
use Rattle.rr_rules.specs.Forced.Effects.{entries_of}
use Rattle.rr_rules.specs.Forced.WorkedNeeds.{seat, with_leader_of}

-- a chart of one column: 100 above 90
abbrev pub white : ℕ → Option chart.Cell
white n = Some (record { price = n; zone = Z.White; is_par = false })

abbrev pub column : List Row
column = (white 100 ∷ []) ∷ (white 90 ∷ []) ∷ []

abbrev pub cell_in_row : ℕ → Cell
cell_in_row n = record { row = n; column = 0 }

-- 10% certificates of a corporation go to a place, and its token stands at 100
abbrev pub shares_to : Corp → Place → List ShareNumber → Book
shares_to c place numbers = map (λ n. E.Move (C.Share c n) place) numbers ++ E.Mark c (cell_in_row 0) ∷ []

-- the PRR has 50, its president 25 and nothing else, the second player 100, and the cheapest train costs 80
abbrev pub poor : Book
poor = with_leader_of 25 ++ E.Pay P.Bank (P.Seat (seat 1)) (dollars 100) ∷ []

-- the president has a share of the NYC too
abbrev pub with_share : Book
with_share = poor ++ shares_to Corp.Nyc (L.Seat (seat 0)) (N.One ∷ [])

-- what the PRR needs
abbrev pub need_in : Book → Option Need
need_in book = cheapest_need usual_terms (situation_of book) Corp.Prr

-- the first player sells so many shares of a corporation for the PRR's train
abbrev pub raise_in : Book → Corp → ℕ → Option Refusal
raise_in book c n = raise_verdict (holdings_of column book) (need_in book) (seat 0) c n

-- the first player is bankrupt
abbrev pub bankrupt_in : Book → Option Refusal
bankrupt_in book = bankrupt_verdict (need_in book) (seat 0) (can_raise (holdings_of column book) (need_in book) (seat 0))

-- the share is sold for 100, and the token falls; where the money suffices no share is sold, and nobody else sells
pub record WorkedRaise : Type 0 where
  pub lawful : raise_in with_share Corp.Nyc 1 ≡ None
  pub entries : entries_of usual_terms column with_share (A.Raise (seat 0) Corp.Nyc 1)
      ≡ E.Step (M.Act (A.Raise (seat 0) Corp.Nyc 1))
      ∷ E.Move (C.Share Corp.Nyc N.One) L.Pool
      ∷ E.Pay P.Bank (P.Seat (seat 0)) (dollars 100)
      ∷ E.Mark Corp.Nyc (cell_in_row 1)
      ∷ []
  pub too_many : raise_in with_share Corp.Nyc 2 ≡ Some F.NotForSale
  pub not_needed : raise_in (with_leader_of 40 ++ shares_to Corp.Nyc (L.Seat (seat 0)) (N.One ∷ [])) Corp.Nyc 1 ≡ Some F.SaleNotNeeded
  pub another_seat : raise_verdict (holdings_of column with_share) (need_in with_share) (seat 1) Corp.Nyc 1 ≡ Some F.NotYourTurn
  pub no_need : raise_verdict (holdings_of column with_share) None (seat 0) Corp.Nyc 1 ≡ Some F.NotYourTurn
  pub full_pool : raise_in (with_share ++ shares_to Corp.Nyc L.Pool (N.Two ∷ N.Three ∷ N.Four ∷ N.Five ∷ N.Six ∷ [])) Corp.Nyc 1 ≡ Some F.PoolOverHalf

-- the president has 30% of the PRR, and the second player as much
abbrev pub rivals : Book
rivals =
    poor
    ++ shares_to Corp.Prr (L.Seat (seat 0)) (N.One ∷ [])
    ++ shares_to Corp.Prr (L.Seat (seat 1)) (N.Two ∷ N.Three ∷ N.Four ∷ [])

-- it sells no share by which the corporation that is due would change its president; with 40% it may sell one, not two; a
-- pool over 50% comes before that, and so do more shares than it has
pub record WorkedPresidency : Type 0 where
  pub changes : raise_in rivals Corp.Prr 1 ≡ Some F.PresidencyWouldChange
  pub keeps : raise_in (rivals ++ shares_to Corp.Prr (L.Seat (seat 0)) (N.Five ∷ [])) Corp.Prr 1 ≡ None
  pub too_many : raise_in (rivals ++ shares_to Corp.Prr (L.Seat (seat 0)) (N.Five ∷ [])) Corp.Prr 2 ≡ Some F.PresidencyWouldChange
  pub pool_first : raise_in (rivals ++ shares_to Corp.Prr L.Pool (N.Five ∷ N.Six ∷ N.Seven ∷ N.Eight ∷ [])) Corp.Prr 2 ≡ Some F.PoolOverHalf
  pub shares_first : raise_in rivals Corp.Prr 5 ≡ Some F.NotForSale

-- a president that can sell a share isn't bankrupt, nor one that has the money
pub record WorkedBankruptcy : Type 0 where
  pub can_sell : bankrupt_in with_share ≡ Some F.NotBankrupt
  pub can_pay : bankrupt_in (with_leader_of 40) ≡ Some F.NotBankrupt
  pub bankrupt : bankrupt_in poor ≡ None
  pub by_rivals : bankrupt_in rivals ≡ None
  pub another_seat : bankrupt_verdict (need_in poor) (seat 1) (can_raise (holdings_of column poor) (need_in poor) (seat 1)) ≡ Some F.NotYourTurn
  pub entries : entries_of usual_terms column poor (A.Bankrupt (seat 0)) ≡ E.Step (M.Act (A.Bankrupt (seat 0))) ∷ []
