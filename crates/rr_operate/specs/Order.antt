-- Whether a command comes in its order: what is asked of each command before the checks of its own row.
use Rattle.std.specs.Prelude.{Bool, true, false, not, ◌&&◌, ◌||◌, Option, None, Some, if◌then◌else◌}
use Rattle.std.specs.Option.{option_or}
use Rattle.rr_roster.specs.declared.company.Corp.{Corp}
use Rattle.rr_books.specs.declared.parties.Money.{Money}
use Rattle.rr_books.specs.declared.acts.Act.{Act}
use Rattle.rr_books.specs.declared.acts.Act.TheVariants as A
use Rattle.rr_books.specs.Book.{Book, train_holder}
use Rattle.rr_books.specs.Same.{same_corp}
use Rattle.rr_kit.specs.declared.kit.Kit.{Kit}
use Rattle.rr_market.specs.Operations.Turn.{takes}
use Rattle.rr_market.specs.Operations.Progress.{progress}
use Rattle.rr_market.specs.Operations.Due.{due}
use Rattle.rr_operate.specs.Dividends.Dividends.{pay_verdict}
use Rattle.rr_trains.specs.Depot.Over.{is_any_over_limit}
use Rattle.rr_books.specs.declared.refusal.Refusal.{Refusal}
use Rattle.rr_books.specs.declared.refusal.Refusal.TheVariants as F
use Rattle.rr_operate.specs.declared.order.Turn.{Turn}

-- the corporation that acts, in a command of a corporation's turn
abbrev pub actor : Act → Option Corp
actor (A.Lay c hex tile turn) = Some c
actor (A.Station c hex centre) = Some c
actor (A.Run c sheet) = Some c
actor (A.RunBest c sheet certificate) = Some c
actor (A.PayOut c) = Some c
actor (A.Hold c) = Some c
actor (A.BuyTrain c kind source) = Some c
actor (A.BuyTrainFrom c kind seller price s t) = Some c
actor (A.Trade c kind) = Some c
actor (A.Discard c kind) = Some c
actor (A.TakePrivate c p price) = Some c
actor (A.Force c) = Some c
actor (A.End c) = Some c
actor _ = None

-- the command is one of a corporation's own turn: a forced purchase and what helps it have rules of their own
abbrev pub is_played : Act → Bool
is_played (A.Lay c hex tile turn) = true
is_played (A.Station c hex centre) = true
is_played (A.Run c sheet) = true
is_played (A.RunBest c sheet certificate) = true
is_played (A.PayOut c) = true
is_played (A.Hold c) = true
is_played (A.BuyTrain c kind source) = true
is_played (A.BuyTrainFrom c kind seller price s t) = true
is_played (A.Trade c kind) = true
is_played (A.Discard c kind) = true
is_played (A.TakePrivate c p price) = true
is_played (A.End c) = true
is_played _ = false

-- a train is given up, which any corporation over its limit may do, whoever is due
abbrev pub is_discard : Act → Bool
is_discard (A.Discard c kind) = true
is_discard _ = false

-- the corporation that acts is the one that is due
abbrev pub is_due : Option Corp → Option Corp → Bool
is_due (Some d) (Some c) = same_corp d c
is_due _ _ = false

-- what the order of commands looks at: whether some corporation is over the train limit, the step of the turn, and the
-- corporation that is due
abbrev pub turn_of : Kit → Book → Turn
turn_of kit book = record { is_over_limit = is_any_over_limit (train_holder book); step = (progress book).step; due = due kit.chart book }

-- what the trains earned in this turn is paid out, if they earned something
abbrev pub revenue_verdict : Money → Act → Option Refusal
revenue_verdict revenue (A.PayOut c) = pay_verdict revenue
revenue_verdict revenue _ = None

-- the step of the turn takes the command
unfoldable pub step_verdict : Turn → Money → Act → Option Refusal
step_verdict turn revenue act = if not (takes turn.step act && is_played act) then Some F.WrongStep else revenue_verdict revenue act

-- trains over a limit are given up before anything else; then the step takes the command; then it is the corporation's
-- turn
unfoldable pub verdict_at : Turn → Money → Act → Option Refusal
verdict_at turn revenue act =
    if turn.is_over_limit && not (is_discard act) then Some F.MustDiscardFirst
    else option_or (step_verdict turn revenue act)
    (if not (is_discard act || is_due turn.due (actor act)) then Some F.NotYourTurn else None)

-- the first of these that refuses the command, if one does, where the trains earned this revenue in this turn
abbrev pub order_verdict : Kit → Book → Money → Act → Option Refusal
order_verdict kit book revenue act = verdict_at (turn_of kit book) revenue act
