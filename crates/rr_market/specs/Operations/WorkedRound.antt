-- Two operating rounds of two corporations, worked.
use Rattle.std.specs.Prelude.{◌≡◌, ℕ, pos, negsuc, true, false, List, [], ◌∷◌, ◌++◌, Option, None, Some}
use Rattle.rr_roster.specs.declared.company.Corp.{Corp}
use Rattle.rr_roster.specs.declared.company.Kind.TheVariants as K
use Rattle.rr_roster.specs.Chart.Chart.{Row}
use Rattle.rr_roster.specs.declared.chart.cell.Cell.{Cell}
use Rattle.rr_roster.specs.declared.chart.cell.Zone.TheVariants as Z
use Rattle.rr_books.specs.declared.parties.Party.TheVariants as P
use Rattle.rr_books.specs.declared.parties.Place.TheVariants as L
use Rattle.rr_books.specs.declared.entries.Entry.{Entry}
use Rattle.rr_books.specs.declared.entries.Entry.TheVariants as E
use Rattle.rr_books.specs.declared.entries.Marker.TheVariants as M
use Rattle.rr_books.specs.declared.acts.Act.TheVariants as A
use Rattle.rr_books.specs.Book.{Book}
use Rattle.rr_market.specs.declared.operations.turn.TurnStep.TheVariants as T
use Rattle.rr_market.specs.Operations.Phases.{train}
use Rattle.rr_market.specs.Operations.Progress.{had_turn, progress, sheet_run}
use Rattle.rr_market.specs.Operations.Due.{due}
use Rattle.rr_market.specs.Operations.OperatingLaws.{end}

-- a chart of one row: 60, 70 and 80
abbrev pub priced : ℕ → Option Cell
priced price = Some (record { price = price; zone = Z.White; is_par = false })

abbrev pub one_row : List Row
one_row = (priced 60 ∷ priced 70 ∷ priced 80 ∷ []) ∷ []

abbrev pub marks : Corp → ℕ → Entry
marks c column = E.Mark c (record { row = 0; column = column })

-- a 3 is sold to a corporation
abbrev pub sells : Corp → ℕ → Entry
sells c number = E.Train (train K.Three number) (L.Corp c)

-- the first 3 is sold, the PRR stands at 80 and the NYC at 70, both have floated, and a set of operating rounds begins
abbrev pub set_begun : Book
set_begun =
    sells Corp.Nyc 1
    ∷ E.Step M.Stock
    ∷ marks Corp.Nyc 1
    ∷ marks Corp.Prr 2
    ∷ E.Step (M.Float Corp.Nyc)
    ∷ E.Step (M.Float Corp.Prr)
    ∷ E.Step M.Operating
    ∷ []

-- the PRR runs, and pays out 12,001; it has stood at 80 and falls to 60 all the same
abbrev pub paid_out : Book
paid_out =
    set_begun
    ++ E.Step (M.Act (A.Run Corp.Prr (50 ∷ [])))
    ∷ E.Step (M.Act (A.PayOut Corp.Prr))
    ∷ E.Pay P.Bank (P.Corp Corp.Prr) (record { 0 = pos 12001 })
    ∷ marks Corp.Prr 0
    ∷ []

-- the PRR is due through all of its turn, and only in the next round comes after the NYC; a set that began with the
-- first 3 has two rounds
pub record WorkedRound : Type 0 where
  pub first : due one_row set_begun ≡ Some Corp.Prr
  pub laying : (progress set_begun).step ≡ T.Lay
  pub length : (progress set_begun).set_length ≡ 2
  pub solvent : (progress set_begun).lowest ≡ pos 0
  pub still_first : due one_row paid_out ≡ Some Corp.Prr
  pub buying : (progress paid_out).step ≡ T.Train
  pub sheet : sheet_run paid_out ≡ Some (50 ∷ [])
  pub owing : (progress paid_out).lowest ≡ negsuc 12000
  pub second : due one_row (paid_out ++ end Corp.Prr ∷ []) ≡ Some Corp.Nyc
  pub had : had_turn (progress (paid_out ++ end Corp.Prr ∷ [])) Corp.Prr ≡ true
  pub no_sheet : sheet_run (paid_out ++ end Corp.Prr ∷ []) ≡ None
  pub none : due one_row (paid_out ++ end Corp.Prr ∷ end Corp.Nyc ∷ []) ≡ None
  pub next_round : (progress (paid_out ++ end Corp.Prr ∷ end Corp.Nyc ∷ E.Step M.Operating ∷ [])).round ≡ 2
  pub next_first : due one_row (paid_out ++ end Corp.Prr ∷ end Corp.Nyc ∷ E.Step M.Operating ∷ []) ≡ Some Corp.Nyc
