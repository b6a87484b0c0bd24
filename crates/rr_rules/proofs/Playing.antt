-- How a table stands behind a command.
use Rattle.std.proofs.Common.{◌≡◌, ◌∙◌, [], ◌++◌, sym, ap, subst, append-nil}
use Rattle.rr_books.specs.Book.{Book}
use Rattle.rr_books.specs.declared.acts.Act.{Act}
use Rattle.rr_desk.specs.Effects.{Effect}
use Rattle.rr_desk.specs.Desk.{OnDesk, Takes}
use Rattle.rr_kit.specs.declared.kit.Kit.{Kit}
use Rattle.rr_market.specs.declared.operations.turn.Stage.{Stage}
use Rattle.rr_desk.specs.Position.Position.{OnTable, IsPositionOf}
use Rattle.rr_rules.specs.Judging.{stage}
use Rattle.rr_rules.specs.Playing.{entries_after, entries_in, state_after, state_in}
use Rattle.rr_rules.specs.State.{AtTable, GameState, IsStandingOf}

-- what a desk with no entry took
pub taken_from_none : (f : Effect) (old new : OnDesk) (p q : OnTable) → old.position ≡ p → old.entries ≡ [] → Takes f old new → q ≡ new.position
    → (book : Book) → IsPositionOf book p → IsPositionOf (book ++ f book) q
taken_from_none f old new p q begun none takes ended book h =
    let empty : book ++ old.entries ≡ book = ap (λ (es : Book). book ++ es) none ∙ append-nil book in
    let Begun : OnTable → Type 0 = λ t. IsPositionOf (book ++ old.entries) t in
    let At : Book → Type 0 = λ b. IsPositionOf b p in
    let all = takes book (subst Begun (sym begun) (subst At (sym empty) h)) in
    let added : new.entries ≡ f book = all.0 ∙ ap (λ (es : Book). es ++ f (book ++ old.entries)) none ∙ ap f empty in
    let New : Book → Type 0 = λ es. IsPositionOf (book ++ es) new.position in
    let Ended : OnTable → Type 0 = λ t. IsPositionOf (book ++ f book) t in
    subst Ended (sym ended) (subst New added all.1)

-- what a desk with no entry was given
pub given_from_none : (f : Effect) (old new : OnDesk) (p : OnTable) (es : Book) → old.position ≡ p → old.entries ≡ [] → Takes f old new → es ≡ new.entries
    → (book : Book) → IsPositionOf book p → es ≡ f book
given_from_none f old new p es begun none takes given book h =
    let empty : book ++ old.entries ≡ book = ap (λ (es : Book). book ++ es) none ∙ append-nil book in
    let Begun : OnTable → Type 0 = λ t. IsPositionOf (book ++ old.entries) t in
    let At : Book → Type 0 = λ b. IsPositionOf b p in
    let all = takes book (subst Begun (sym begun) (subst At (sym empty) h)) in
    given ∙ all.0 ∙ ap (λ (es : Book). es ++ f (book ++ old.entries)) none ∙ ap f empty

-- what a command adds, by the rules in force
pub added_at_stage : (s : Stage) (kit : Kit) (state : GameState) (act : Act) (es : Book) → stage state.book ≡ s
    → es ≡ entries_in s kit state act → es ≡ entries_after kit state act
added_at_stage s kit state act es e h = h ∙ ap (λ (g : Stage). entries_in g kit state act) (sym e)

-- the state behind a command, by the rules in force
pub behind_stage : (s : Stage) (kit : Kit) (state : GameState) (act : Act) (next : AtTable) → stage state.book ≡ s
    → IsStandingOf (state_in s kit state act) next → IsStandingOf (state_after kit state act) next
behind_stage s kit state act next e h =
    let P : Stage → Type 0 = λ g. IsStandingOf (state_in g kit state act) next in
    subst P (sym e) h
