-- What a corporation needs by the tables that run along with a book is what it needs by the book.
use Rattle.std.specs.Prelude.{◌≡◌, Option}
use Rattle.std.proofs.Common.{◌∙◌, ap}
use Rattle.rr_roster.specs.declared.company.Corp.{Corp}
use Rattle.rr_roster.specs.Terms.{Terms}
use Rattle.rr_books.specs.Book.{Book}
use Rattle.rr_books.specs.State.{State, IsStateOf}
use Rattle.rr_trains.specs.Depot.Situation.{Situation, situation_in, situation_of}
use Rattle.rr_trains.specs.Depot.SituationLaws.{situation-of_book}
use Rattle.rr_trains.proofs.DepotLemmas.Standing.{lent}
use Rattle.rr_rules.specs.declared.forced.needs.Need.{Need}
use Rattle.rr_rules.specs.Forced.Needs.{cheapest_need}

pub need_of_book : (roster : Terms) (c : Corp) (book : Book) (s t : State) (need : Option Need) → s ≡ t → IsStateOf book t → need ≡ cheapest_need roster (situation_in s) c
    → need ≡ cheapest_need roster (situation_of book) c
need_of_book roster c book s t need same h e =
    e ∙ ap (λ (x : Situation). cheapest_need roster x c) (situation-of_book book s (lent same h))
