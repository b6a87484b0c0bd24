-- Commands of two corporations' turns, worked.
use Rattle.std.specs.Prelude.{◌≡◌, true, false, [], ◌∷◌, ◌++◌, None, Some}
use Rattle.rr_roster.specs.declared.company.Corp.{Corp}
use Rattle.rr_roster.specs.declared.company.Kind.TheVariants as K
use Rattle.rr_books.specs.declared.parties.Place.TheVariants as L
use Rattle.rr_books.specs.declared.entries.Entry.{Entry}
use Rattle.rr_books.specs.declared.entries.Entry.TheVariants as E
use Rattle.rr_books.specs.declared.entries.Marker.TheVariants as M
use Rattle.rr_books.specs.declared.acts.Act.{Act}
use Rattle.rr_books.specs.declared.acts.Act.TheVariants as A
use Rattle.rr_books.specs.Book.{Book, train_holder}
use Rattle.rr_kit.specs.Board.Plan.{bare}
use Rattle.rr_kit.specs.declared.kit.Kit.{Kit}
use Rattle.rr_desk.specs.Incomes.{dollars}
use Rattle.rr_market.specs.Operations.Phases.{train}
use Rattle.rr_market.specs.Operations.OperatingLaws.{end}
use Rattle.rr_market.specs.Operations.WorkedRound.{one_row, sells, set_begun}
use Rattle.rr_operate.specs.Sets.WorkedSets.{usual_terms}
use Rattle.rr_books.specs.declared.refusal.Refusal.TheVariants as F
use Rattle.rr_operate.specs.Rows.{IsVerdict, could_buy_first, first_verdict}
use Rattle.rr_operate.specs.Effects.{entries_of, revenue_after}

-- the usual numbers, a chart of one row, and a board without a hex
abbrev pub kit : Kit
kit = record { roster = usual_terms; chart = one_row; tiles = []; board = bare }

abbrev pub says : Act → Entry
says act = E.Step (M.Act act)

-- the PRR is due and ran, the NYC waits with a 3
abbrev pub has_run : Book
has_run = set_begun ++ says (A.Run Corp.Prr (50 ∷ [])) ∷ []

-- the NYC is due, withheld, and may buy trains; it is the last one of the first of two rounds
abbrev pub nyc_buys : Book
nyc_buys = set_begun ++ end Corp.Prr ∷ says (A.Hold Corp.Nyc) ∷ []

-- the ERIE has five 3s where four are allowed, and isn't due
abbrev pub erie_over : Book
erie_over = set_begun ++ sells Corp.Erie 1 ∷ sells Corp.Erie 2 ∷ sells Corp.Erie 3 ∷ sells Corp.Erie 4 ∷ sells Corp.Erie 5 ∷ []

-- 46 comes before 42, and 42 before 20
pub record WorkedOrder : Type 0 where
  pub over : first_verdict kit erie_over (dollars 0) (A.End Corp.Nyc) ≡ Some F.MustDiscardFirst
  pub given_up : first_verdict kit erie_over (dollars 0) (A.Discard Corp.Erie K.Three) ≡ None
  pub within : first_verdict kit erie_over (dollars 0) (A.Discard Corp.Prr K.Three) ≡ Some F.WrongStep
  pub step : first_verdict kit set_begun (dollars 0) (A.End Corp.Nyc) ≡ Some F.WrongStep
  pub turn : first_verdict kit set_begun (dollars 0) (A.Hold Corp.Nyc) ≡ Some F.NotYourTurn
  pub unpaid : first_verdict kit has_run (dollars 0) (A.PayOut Corp.Prr) ≡ Some F.WrongStep
  pub paid : first_verdict kit has_run (dollars 30) (A.PayOut Corp.Prr) ≡ None

-- a corporation with a train ends its turn, and the next round begins; what its trains earned is forgotten; one without a
-- train could buy one where the only train is in the pool, and not where there is none
pub record WorkedTurnEnd : Type 0 where
  pub lawful : IsVerdict kit nyc_buys (dollars 30) (A.End Corp.Nyc) None
  pub entries : entries_of kit (dollars 30) nyc_buys (A.End Corp.Nyc) ≡ end Corp.Nyc ∷ E.Step M.Operating ∷ []
  pub revenue : revenue_after kit nyc_buys (dollars 30) (A.End Corp.Nyc) ≡ dollars 0
  pub pool_alone : could_buy_first (train_holder (E.Train (train K.Two 1) L.Pool ∷ [])) Corp.Prr ≡ true
  pub nowhere : could_buy_first (train_holder []) Corp.Prr ≡ false

-- a run is its words, behind the certificate where there is one
pub record WorkedRun : Type 0 where
  pub alone : entries_of kit (dollars 0) set_begun (A.Run Corp.Prr (50 ∷ [])) ≡ says (A.Run Corp.Prr (50 ∷ [])) ∷ []
  pub best : entries_of kit (dollars 0) set_begun (A.RunBest Corp.Prr (50 ∷ []) (98 ∷ []))
      ≡ E.Best Corp.Prr (50 ∷ []) (98 ∷ []) ∷ says (A.RunBest Corp.Prr (50 ∷ []) (98 ∷ [])) ∷ []
