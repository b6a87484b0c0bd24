-- What the rules say of a book, by what runs along with it.
use Rattle.std.specs.Prelude.{◌≡◌, List, Option, None, Some, Result, MatchResult}
use Rattle.std.proofs.Common.{ap, subst}
use Rattle.rr_roster.specs.Chart.Chart.{Row}
use Rattle.rr_books.specs.declared.acts.Act.{Act}
use Rattle.rr_books.specs.Book.{Book}
use Rattle.rr_desk.specs.Position.Position.{OnTable, IsPositionOf}
use Rattle.rr_books.specs.declared.refusal.Refusal.{Refusal}
use Rattle.rr_stock.specs.Rules.{verdict, verdict_in}
use Rattle.rr_stock.specs.Situation.{Situation, situation_in}
use Rattle.rr_stock.specs.SituationLaws.{situation-of_book}

verdict_shown : (rows : List Row) (act : Act) (book : Book) (p : OnTable) → IsPositionOf book p → verdict_in rows (situation_in rows p) act ≡ verdict rows book act
verdict_shown rows act book p h = ap (λ (x : Situation). verdict_in rows x act) (situation-of_book rows book p h)

-- a verdict said of the book
pub judged : (rows : List Row) (act : Act) (book : Book) (p : OnTable) (result : Result (Unit {0}) Refusal) → IsPositionOf book p
    → MatchResult result (λ _. verdict_in rows (situation_in rows p) act ≡ None) (λ fault. verdict_in rows (situation_in rows p) act ≡ Some fault)
    → MatchResult result (λ _. verdict rows book act ≡ None) (λ fault. verdict rows book act ≡ Some fault)
judged rows act book p result h said =
    subst (λ (x : Option Refusal). MatchResult result (λ _. x ≡ None) (λ fault. x ≡ Some fault)) (verdict_shown rows act book p h) said
