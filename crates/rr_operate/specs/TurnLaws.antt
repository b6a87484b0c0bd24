-- Laws of a corporation's turn.
use Rattle.std.specs.Prelude.{◌≡◌, true, false, Option, None, Some}
use Rattle.rr_roster.specs.declared.company.Corp.{Corp}
use Rattle.rr_books.specs.declared.parties.Money.{Money}
use Rattle.rr_books.specs.declared.acts.Act.{Act}
use Rattle.rr_books.specs.Book.{Book, train_holder}
use Rattle.rr_kit.specs.declared.kit.Kit.{Kit}
use Rattle.rr_market.specs.Operations.Progress.{progress}
use Rattle.rr_market.specs.Operations.Turn.{takes}
use Rattle.rr_market.specs.Operations.Due.{due}
use Rattle.rr_trains.specs.Depot.Over.{is_any_over_limit}
use Rattle.rr_books.specs.declared.refusal.Refusal.{Refusal}
use Rattle.rr_operate.specs.Order.{actor, is_discard}
use Rattle.rr_operate.specs.Rows.{IsVerdict}

-- no two verdicts on one command
abbrev pub OneVerdict : Type 0
OneVerdict =
    (kit : Kit) (book : Book) (revenue : Money) (act : Act) (one other : Option Refusal)
    → IsVerdict kit book revenue act one → IsVerdict kit book revenue act other → one ≡ other

-- a lawful command acts for the corporation that is due, unless it gives up a train
abbrev pub OnlyTheCorporationDue : Type 0
OnlyTheCorporationDue =
    (kit : Kit) (book : Book) (revenue : Money) (act : Act) → IsVerdict kit book revenue act None → is_discard act ≡ false
    → (c : Corp) × (due kit.chart book ≡ Some c) × (actor act ≡ Some c)

-- while some corporation is over the train limit, a lawful command gives up a train
abbrev pub DiscardsComeFirst : Type 0
DiscardsComeFirst =
    (kit : Kit) (book : Book) (revenue : Money) (act : Act) → is_any_over_limit (train_holder book) ≡ true
    → IsVerdict kit book revenue act None → is_discard act ≡ true

-- a lawful command is one that the step of the turn takes
abbrev pub StepsAreKept : Type 0
StepsAreKept =
    (kit : Kit) (book : Book) (revenue : Money) (act : Act) → IsVerdict kit book revenue act None → takes (progress book).step act ≡ true
