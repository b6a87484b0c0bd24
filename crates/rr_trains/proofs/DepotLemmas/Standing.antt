-- What the rules say of a book, by the tables that run along with it.
use Rattle.std.specs.Prelude.{◌≡◌, Option, None, Some, Result, MatchResult}
use Rattle.std.proofs.Common.{sym, ap, subst}
use Rattle.rr_roster.specs.Terms.{Terms}
use Rattle.rr_books.specs.declared.acts.Act.{Act}
use Rattle.rr_books.specs.Book.{Book}
use Rattle.rr_books.specs.State.{State, IsStateOf}
use Rattle.rr_books.specs.declared.refusal.Refusal.{Refusal}
use Rattle.rr_trains.specs.Depot.Rules.{verdict, verdict_in}
use Rattle.rr_trains.specs.Depot.Situation.{Situation, situation_in}
use Rattle.rr_trains.specs.Depot.SituationLaws.{situation-of_book}

-- tables that are lent stand for the book of those that they are
pub lent : {book : Book} {s t : State} → s ≡ t → IsStateOf book t → IsStateOf book s
lent {book} {s} {t} same h = subst (λ (r : State). IsStateOf book r) (sym same) h

-- a verdict said of the book
pub judged : (roster : Terms) (act : Act) (book : Book) (s : State) (result : Result (Unit {0}) Refusal) → IsStateOf book s
    → MatchResult result (λ _. verdict_in roster (situation_in s) act ≡ None) (λ fault. verdict_in roster (situation_in s) act ≡ Some fault)
    → MatchResult result (λ _. verdict roster book act ≡ None) (λ fault. verdict roster book act ≡ Some fault)
judged roster act book s result h said =
    let same : verdict_in roster (situation_in s) act ≡ verdict roster book act = ap (λ (x : Situation). verdict_in roster x act) (situation-of_book book s h) in
    subst (λ (x : Option Refusal). MatchResult result (λ _. x ≡ None) (λ fault. x ≡ Some fault)) same said
