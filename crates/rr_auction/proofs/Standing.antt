-- What the rules say of a book, by the views that stand for it.
use Rattle.std.specs.Prelude.{◌≡◌, List, Option, None, Some, Result, MatchResult}
use Rattle.std.proofs.Common.{sym, ◌∙◌, ap, subst}
use Rattle.std.proofs.Math.Path.{fun_ext}
use Rattle.rr_roster.specs.Terms.{Terms}
use Rattle.rr_roster.specs.Chart.Chart.{Row}
use Rattle.rr_books.specs.declared.acts.Act.{Act}
use Rattle.rr_books.specs.declared.parties.Party.{Party}
use Rattle.rr_books.specs.Book.{Book, balance, holder}
use Rattle.rr_books.specs.Shares.{Holders}
use Rattle.rr_books.specs.ShareLaws.{holder-of_state}
use Rattle.rr_books.specs.State.{State, cash_of, holder_in}
use Rattle.rr_rounds.specs.Bids.Progress.{Progress, progress}
use Rattle.rr_desk.specs.Position.Position.{OnTable, IsPositionOf}
use Rattle.rr_books.specs.declared.refusal.Refusal.{Refusal}
use Rattle.rr_auction.specs.Rules.{Accounts, verdict, verdict_in}

-- a function of the places and of the progress, at views that are those of the position
pub by_views : {A : Type 0} (f : Holders → Progress → A) (book : Book) (p : OnTable) (s : State) (a : Progress) → s ≡ p.books → a ≡ p.bidding → IsPositionOf book p → f (holder_in s) a ≡ f (holder book) (progress book)
by_views f book p s a books bidding h =
    ap (λ (t : State). f (holder_in t) a) books
    ∙ ap (λ (H : Holders). f H a) (holder-of_state book p.books h.books)
    ∙ ap (λ (b : Progress). f (holder book) b) (bidding ∙ sym h.bidding)

-- the verdict of a command
pub verdict_by_views : (roster : Terms) (rows : List Row) (act : Act) (book : Book) (p : OnTable) (s : State) (a : Progress) → s ≡ p.books → a ≡ p.bidding → IsPositionOf book p → verdict_in roster rows (cash_of s) (holder_in s) a act ≡ verdict roster rows book act
verdict_by_views roster rows act book p s a books bidding h =
    ap (λ (t : State). verdict_in roster rows (cash_of t) (holder_in s) a act) books
    ∙ ap (λ (money : Accounts). verdict_in roster rows money (holder_in s) a act) (fun_ext (λ (x : Party). sym (h.books.balances x)))
    ∙ by_views (λ H b. verdict_in roster rows (balance book) H b act) book p s a books bidding h

-- a verdict said of the book
pub verdict_moved : (r : Result (Unit {0}) Refusal) (v w : Option Refusal) → v ≡ w → MatchResult r (λ _. v ≡ None) (λ fault. v ≡ Some fault) → MatchResult r (λ _. w ≡ None) (λ fault. w ≡ Some fault)
verdict_moved r v w e h = subst (λ (x : Option Refusal). MatchResult r (λ _. x ≡ None) (λ fault. x ≡ Some fault)) e h
