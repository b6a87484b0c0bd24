-- Commands of corporations' turns, one after another, on a table in good order.
use Rattle.std.specs.Prelude.{◌≡◌, ℕ, pos, ◌≤ℤ◌, true, List, [], ◌∷◌, ◌++◌, None, ⊤}
use Rattle.rr_books.specs.declared.parties.Money.{Money}
use Rattle.rr_books.specs.declared.acts.Act.{Act}
use Rattle.rr_books.specs.Book.{Book}
use Rattle.rr_kit.specs.declared.kit.Kit.{Kit}
use Rattle.rr_laws.specs.Soundness.GoodOrder.{IsInGoodOrder}
use Rattle.rr_operate.specs.Order.{is_played}
use Rattle.rr_operate.specs.Rows.{IsVerdict}
use Rattle.rr_operate.specs.Effects.{entries_of, revenue_after}

-- the trains earned nothing, or more
abbrev pub IsEarned : Money → Type 0
IsEarned revenue = pos 0 ≤ℤ revenue.0

-- a book once a command of a corporation's turn is taken down, with what follows on it
abbrev pub with_act : Kit → Money → Book → Act → Book
with_act kit revenue book act = book ++ entries_of kit revenue book act

-- a book once these commands are taken down, one after another, each with what the trains have earned by then
abbrev pub with_acts : Kit → Money → Book → List Act → Book
with_acts kit revenue book [] = book
with_acts kit revenue book (act ∷ acts) = with_acts kit (revenue_after kit book revenue act) (with_act kit revenue book act) acts

-- what the trains have earned behind these commands
abbrev pub revenue_behind : Kit → Money → Book → List Act → Money
revenue_behind kit revenue book [] = revenue
revenue_behind kit revenue book (act ∷ acts) = revenue_behind kit (revenue_after kit book revenue act) (with_act kit revenue book act) acts

-- none of these commands is refused in the book that those before it made
abbrev pub AreLawful : Kit → Money → Book → List Act → Type 0
AreLawful kit revenue book [] = ⊤
AreLawful kit revenue book (act ∷ acts) =
    IsVerdict kit book revenue act None × AreLawful kit (revenue_after kit book revenue act) (with_act kit revenue book act) acts

-- a lawful command is one of those that a corporation's turn is made of
abbrev pub LawfulCommandsAreOfTurns : Type 0
LawfulCommandsAreOfTurns = (kit : Kit) (book : Book) (revenue : Money) (act : Act) → IsVerdict kit book revenue act None → is_played act ≡ true

-- a table in good order stays in good order with each lawful command of a corporation's turn
abbrev pub TurnsKeepGoodOrder : Type 0
TurnsKeepGoodOrder =
    (n : ℕ) (kit : Kit) (revenue : Money) (book : Book) (act : Act) → IsEarned revenue → IsVerdict kit book revenue act None
    → IsInGoodOrder n book → IsInGoodOrder n (with_act kit revenue book act)

-- what the trains have earned is never below nothing, whatever command follows
abbrev pub RevenueIsNeverNegative : Type 0
RevenueIsNeverNegative = (kit : Kit) (revenue : Money) (book : Book) (act : Act) → IsEarned revenue → IsEarned (revenue_after kit book revenue act)

-- a table in good order stays in good order whatever lawful commands of corporations' turns follow, and what the trains
-- have earned behind them isn't below nothing
abbrev pub PlaysOfTurnsKeepGoodOrder : Type 0
PlaysOfTurnsKeepGoodOrder =
    (n : ℕ) (kit : Kit) (revenue : Money) (book : Book) (acts : List Act) → IsEarned revenue → AreLawful kit revenue book acts
    → IsInGoodOrder n book → IsInGoodOrder n (with_acts kit revenue book acts) × IsEarned (revenue_behind kit revenue book acts)
