-- The verdict on a command of a corporation's turn: the first check that refuses it.
use Rattle.std.specs.Prelude.{◌≡◌, ℕ, ◌==◌, ◌⊎◌, Bool, true, ◌&&◌, ◌||◌, List, Option, None, Some}
use Rattle.std.specs.List.{list_any}
use Rattle.std.specs.Option.{option_or}
use Rattle.rr_roster.specs.declared.company.Corp.{Corp}
use Rattle.rr_roster.specs.declared.company.Kind.{Kind}
use Rattle.rr_roster.specs.Company.{kinds}
use Rattle.rr_roster.specs.Terms.{tokens_of}
use Rattle.rr_books.specs.declared.parties.Money.{Money}
use Rattle.rr_books.specs.declared.parties.Place.TheVariants as L
use Rattle.rr_books.specs.declared.acts.Act.{Act}
use Rattle.rr_books.specs.declared.acts.Act.TheVariants as A
use Rattle.rr_roster.specs.declared.sources.TrainSource.TheVariants as S
use Rattle.rr_books.specs.Book.{Book, train_holder}
use Rattle.rr_kit.specs.declared.kit.Kit.{Kit}
use Rattle.rr_desk.specs.declared.layout.layout.Lay.{Lay}
use Rattle.rr_desk.specs.declared.layout.layout.Station.{Station}
use Rattle.rr_market.specs.Operations.Phases.{TrainHolders}
use Rattle.rr_trains.specs.Places.{trains_held}
use Rattle.rr_trains.specs.Sales.{is_on_sale}
use Rattle.rr_routes.specs.declared.net.CentreLimit.TheVariants.{AtMost}
use Rattle.rr_referee.specs.Trips.Having.{HasRoute}
use Rattle.rr_books.specs.declared.refusal.Refusal.{Refusal}
use Rattle.rr_lay.specs.Position.{position_of}
use Rattle.rr_lay.specs.Laying.{IsLayVerdict, first_lay_verdict}
use Rattle.rr_lay.specs.Placing.{IsStationVerdict, first_station_verdict}
use Rattle.rr_trains.specs.Depot.Rules.{verdict}
use Rattle.rr_running.specs.Running.{IsBestRunVerdict, IsRunVerdict, net_now}
use Rattle.rr_books.specs.declared.refusal.Refusal.TheVariants as F
use Rattle.rr_operate.specs.Order.{order_verdict}

-- the tile that a command names, and the token
abbrev pub lay_of : List ℕ → ℕ → ℕ → Lay
lay_of hex tile turn = record { hex = hex; tile = tile; turn = turn }

abbrev pub station_of : Corp → List ℕ → ℕ → Station
station_of c hex centre = record { corp = c; hex = hex; centre = centre }

-- a purchase, or a train given up, by the rules of these
abbrev pub purchase_verdict : Kit → Book → Act → Option Refusal
purchase_verdict kit book act = verdict kit.roster book act

-- the checks of a command's own row that take no memory
abbrev pub row_first : Kit → Book → Act → Option Refusal
row_first kit book (A.Lay c hex tile turn) = first_lay_verdict kit.board kit.tiles (position_of book) (lay_of hex tile turn)
row_first kit book (A.Station c hex centre) = first_station_verdict kit.board (tokens_of kit.roster c) (position_of book) (station_of c hex centre)
row_first kit book (A.BuyTrain c kind source) = purchase_verdict kit book (A.BuyTrain c kind source)
row_first kit book (A.BuyTrainFrom c kind seller price s t) = purchase_verdict kit book (A.BuyTrainFrom c kind seller price s t)
row_first kit book (A.Trade c kind) = purchase_verdict kit book (A.Trade c kind)
row_first kit book (A.Discard c kind) = purchase_verdict kit book (A.Discard c kind)
row_first kit book (A.TakePrivate c p price) = purchase_verdict kit book (A.TakePrivate c p price)
row_first kit book _ = None

-- all checks that take no memory: the order of commands, and then those of the row
abbrev pub first_verdict : Kit → Book → Money → Act → Option Refusal
first_verdict kit book revenue act = option_or (order_verdict kit book revenue act) (row_first kit book act)

-- trains of the kind are on sale, in the bank or in the pool, whatever they cost
abbrev pub is_kind_on_sale : TrainHolders → Kind → Bool
is_kind_on_sale trains kind = is_on_sale trains kind S.Bank || is_on_sale trains kind S.Pool

-- the corporation has no train, and one is on sale
unfoldable pub could_buy_first : TrainHolders → Corp → Bool
could_buy_first trains c = (trains_held trains (L.Corp c) == 0) && list_any (is_kind_on_sale trains) kinds

-- a corporation without a train must own one while one is on sale, if it has a route
abbrev pub OwesTrain : Kit → Book → Corp → Type 0
OwesTrain kit book c = (could_buy_first (train_holder book) c ≡ true) × HasRoute (net_now kit.board kit.tiles book c) (AtMost 2)

-- the verdict on ending a turn
abbrev pub IsEndVerdict : Kit → Book → Corp → Option Refusal → Type 0
IsEndVerdict kit book c verdict = ((OwesTrain kit book c → ⊥) × (verdict ≡ None)) ⊎ (OwesTrain kit book c × (verdict ≡ Some F.MustOwnTrain))

-- what the other checks of the row find
abbrev pub IsRowVerdict : Kit → Book → Act → Option Refusal → Type 0
IsRowVerdict kit book (A.Lay c hex tile turn) verdict = IsLayVerdict kit.board kit.tiles (position_of book) c (lay_of hex tile turn) verdict
IsRowVerdict kit book (A.Station c hex centre) verdict = IsStationVerdict kit.board kit.tiles (tokens_of kit.roster c) (position_of book) (station_of c hex centre) verdict
IsRowVerdict kit book (A.Run c sheet) verdict = IsRunVerdict kit book c sheet verdict
IsRowVerdict kit book (A.RunBest c sheet certificate) verdict = IsBestRunVerdict kit book c sheet certificate verdict
IsRowVerdict kit book (A.End c) verdict = IsEndVerdict kit book c verdict
IsRowVerdict kit book _ verdict = verdict ≡ None

-- the first fault, or else what comes next
abbrev pub After : Option Refusal → (Option Refusal → Type 0) → Option Refusal → Type 0
After (Some fault) Next verdict = verdict ≡ Some fault
After None Next verdict = Next verdict

-- the verdict on a command, where the trains earned this revenue in this turn
abbrev pub IsVerdict : Kit → Book → Money → Act → Option Refusal → Type 0
IsVerdict kit book revenue act verdict = After (first_verdict kit book revenue act) (IsRowVerdict kit book act) verdict

-- a fault with which a command may be refused: that of its verdict, or want of memory behind all checks that take none
abbrev pub MayJudge : Kit → Book → Money → Act → Refusal → Type 0
MayJudge kit book revenue act fault = IsVerdict kit book revenue act (Some fault) ⊎ ((first_verdict kit book revenue act ≡ None) × (fault ≡ F.OutOfMemory))

-- the same of the row alone
abbrev pub IsVerdictOfRow : Kit → Book → Act → Option Refusal → Type 0
IsVerdictOfRow kit book act verdict = After (row_first kit book act) (IsRowVerdict kit book act) verdict

abbrev pub MayJudgeRow : Kit → Book → Act → Refusal → Type 0
MayJudgeRow kit book act fault = IsVerdictOfRow kit book act (Some fault) ⊎ ((row_first kit book act ≡ None) × (fault ≡ F.OutOfMemory))
