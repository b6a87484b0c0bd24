-- The verdict on a command of a corporation that must own a train and can't pay it: the first check that refuses it.
use Rattle.std.specs.Prelude.{◌≡◌, ◌⊎◌, ℕ, ◌==◌, Bool, true, false, not, ◌&&◌, Option, None, Some, if◌then◌else◌}
use Rattle.std.specs.Bool.{Decides}
use Rattle.std.specs.Option.{option_or}
use Rattle.rr_roster.specs.declared.company.Corp.{Corp}
use Rattle.rr_books.specs.declared.parties.Seat.{Seat}
use Rattle.rr_books.specs.declared.acts.Act.{Act}
use Rattle.rr_books.specs.declared.acts.Act.TheVariants as A
use Rattle.rr_books.specs.Book.{Book, train_holder}
use Rattle.rr_kit.specs.declared.kit.Kit.{Kit}
use Rattle.rr_shares.specs.Limits.Holdings.{holdings_of}
use Rattle.rr_market.specs.Operations.Turn.{takes}
use Rattle.rr_market.specs.Operations.Progress.{progress}
use Rattle.rr_market.specs.Operations.Due.{due}
use Rattle.rr_trains.specs.Depot.Over.{is_any_over_limit}
use Rattle.rr_operate.specs.Order.{is_due}
use Rattle.rr_operate.specs.Rows.{could_buy_first}
use Rattle.rr_books.specs.declared.refusal.Refusal.{Refusal}
use Rattle.rr_books.specs.declared.refusal.Refusal.TheVariants as F
use Rattle.rr_rules.specs.declared.forced.needs.Need.{Need}
use Rattle.rr_rules.specs.Forced.Needs.{IsNeed, IsNeedOf}
use Rattle.rr_rules.specs.Forced.Sales.{CanRaise, bankrupt_verdict, raise_verdict}

-- the commands of such a corporation
abbrev pub is_forced : Act → Bool
is_forced (A.Force c) = true
is_forced (A.Raise s c n) = true
is_forced (A.Bankrupt s) = true
is_forced _ = false

-- trains over a limit are given up before anything else; then the step takes the command
unfoldable pub order_verdict : Kit → Book → Act → Option Refusal
order_verdict kit book act =
    if is_any_over_limit (train_holder book) then Some F.MustDiscardFirst
    else if not (takes (progress book).step act && is_forced act) then Some F.WrongStep
    else None

-- the corporation has no train while one is on sale, so that it must own one if it has a route
abbrev pub could_owe : Book → Option Corp → Bool
could_owe book None = false
could_owe book (Some c) = could_buy_first (train_holder book) c

abbrev pub refused_unless : Bool → Refusal → Option Refusal
refused_unless could_owe fault = if could_owe then None else Some fault

-- the checks of a command's own row that take no memory: whether the buyer, or the corporation due, could owe a train
abbrev pub row_first : Kit → Book → Act → Option Refusal
row_first kit book (A.Force c) = refused_unless (could_owe book (Some c)) F.WrongStep
row_first kit book (A.Raise s c n) = refused_unless (could_owe book (due kit.chart book)) F.NotYourTurn
row_first kit book (A.Bankrupt s) = refused_unless (could_owe book (due kit.chart book)) F.NotYourTurn
row_first kit book _ = Some F.WrongStep

-- all checks that take no memory: the order of commands, and then that of the row
abbrev pub first_verdict : Kit → Book → Act → Option Refusal
first_verdict kit book act = option_or (order_verdict kit book act) (row_first kit book act)

-- why the purchase isn't made, where the corporation that is due and what the buyer needs are these: the buyer needs no
-- money, it isn't its turn, or its president hasn't enough
abbrev pub force_verdict : Option Corp → Option Need → Option Refusal
force_verdict due None = Some F.WrongStep
force_verdict due (Some need) =
    if need.lack == 0 then Some F.WrongStep
    else if not (is_due due (Some need.corp)) then Some F.NotYourTurn
    else if not (need.shortfall == 0) then Some F.TooLittleCash
    else None

-- the verdict on a forced purchase, by what the buyer needs
abbrev pub IsForceVerdict : Kit → Book → Corp → Option Refusal → Type 0
IsForceVerdict kit book c verdict = (need : Option Need) × IsNeedOf kit book (Some c) need × (verdict ≡ force_verdict (due kit.chart book) need)

-- the verdict on a sale for a train, by what the corporation due needs
abbrev pub IsRaiseVerdict : Kit → Book → Seat → Corp → ℕ → Option Refusal → Type 0
IsRaiseVerdict kit book s c n verdict = (need : Option Need) × IsNeed kit book need × (verdict ≡ raise_verdict (holdings_of kit.chart book) need s c n)

-- the verdict on a bankruptcy, by what the corporation due needs, and whether a sale is lawful
abbrev pub IsBankruptVerdict : Kit → Book → Seat → Option Refusal → Type 0
IsBankruptVerdict kit book s verdict =
    (need : Option Need) × (can_raise : Bool) × IsNeed kit book need × Decides can_raise (CanRaise (holdings_of kit.chart book) need s)
    × (verdict ≡ bankrupt_verdict need s can_raise)

-- the verdict behind the order of commands
abbrev pub IsRowVerdict : Kit → Book → Act → Option Refusal → Type 0
IsRowVerdict kit book (A.Force c) verdict = IsForceVerdict kit book c verdict
IsRowVerdict kit book (A.Raise s c n) verdict = IsRaiseVerdict kit book s c n verdict
IsRowVerdict kit book (A.Bankrupt s) verdict = IsBankruptVerdict kit book s verdict
IsRowVerdict kit book _ verdict = verdict ≡ Some F.WrongStep

-- the first fault, or else what comes next
abbrev pub After : Option Refusal → (Option Refusal → Type 0) → Option Refusal → Type 0
After (Some fault) Next verdict = verdict ≡ Some fault
After None Next verdict = Next verdict

-- the verdict on a command
abbrev pub IsVerdict : Kit → Book → Act → Option Refusal → Type 0
IsVerdict kit book act verdict = After (order_verdict kit book act) (IsRowVerdict kit book act) verdict

-- a fault with which a command may be refused: that of its verdict, or want of memory behind all checks that take none
abbrev pub MayJudge : Kit → Book → Act → Refusal → Type 0
MayJudge kit book act fault = IsVerdict kit book act (Some fault) ⊎ ((first_verdict kit book act ≡ None) × (fault ≡ F.OutOfMemory))
