-- How a desk takes effects, one after another.
use Rattle.std.specs.Prelude.{◌≡◌, ℕ, ◌+◌, ◌<◌, List, [], ◌∷◌, ◌++◌, map, take, length, slice_index_or}
use Rattle.std.proofs.Common.{sym, ◌∙◌, ap, subst, append_assoc, append-nil}
use Rattle.std.proofs.lemmas.List.{take_more, map-append}
use Rattle.rr_books.specs.declared.entries.Entry.{Entry}
use Rattle.rr_books.specs.Book.{Book}
use Rattle.rr_desk.specs.Effects.{Effect, adds, in_turn}
use Rattle.rr_desk.specs.Position.Position.{OnTable, IsPositionOf, Follows}
use Rattle.rr_desk.specs.Desk.{OnDesk, Takes}

-- one entry, which the position followed
pub takes_entry : (old new : OnDesk) (e : Entry) → Follows old.position new.position (e ∷ []) → new.entries ≡ old.entries ++ e ∷ [] → Takes (adds e) old new
takes_entry old new e grown more book h =
    let P : Book → Type 0 = λ b. IsPositionOf b new.position in
    (more, subst P (append_assoc book old.entries (e ∷ []) ∙ ap (λ es. book ++ es) (sym more)) (grown (book ++ old.entries) h))

-- no effect
pub takes_nothing : (d : OnDesk) → Takes (in_turn []) d d
takes_nothing d book h = (sym (append-nil d.entries), h)

-- an effect, and then the others
pub takes_then : (f : Effect) (fs : List Effect) (a b c : OnDesk) → Takes f a b → Takes (in_turn fs) b c → Takes (in_turn (f ∷ fs)) a c
takes_then f fs a b c first others book h =
    let present = book ++ a.entries in
    let one = first book h in
    let two = others book one.1 in (
      two.0
          ∙ ap (λ es. es ++ in_turn fs (book ++ es)) one.0
          ∙ ap (λ so_far. (a.entries ++ f present) ++ in_turn fs so_far) (sym (append_assoc book a.entries (f present)))
          ∙ append_assoc a.entries (f present) (in_turn fs (present ++ f present)),
      two.1,
    )

-- one effect more after others
pub in_turn-push : (fs : List Effect) (f : Effect) (book : Book) → in_turn (fs ++ f ∷ []) book ≡ in_turn fs book ++ f (book ++ in_turn fs book)
in_turn-push [] f book = append-nil (f book) ∙ ap f (sym (append-nil book))
in_turn-push (g ∷ gs) f book =
    let rest = in_turn gs (book ++ g book) in
    ap (λ es. g book ++ es) (in_turn-push gs f (book ++ g book))
    ∙ ap (λ so_far. g book ++ (rest ++ f so_far)) (append_assoc book (g book) rest)
    ∙ sym (append_assoc (g book) rest (f (book ++ (g book ++ rest))))

-- a desk takes an effect after others
pub takes_last : (fs : List Effect) (f : Effect) (a b c : OnDesk) → Takes (in_turn fs) a b → Takes f b c → Takes (in_turn (fs ++ f ∷ [])) a c
takes_last fs f a b c others last book h =
    let one = others book h in
    let two = last book one.1 in
    let present = book ++ a.entries in
    let added = in_turn fs present in (
      two.0
          ∙ ap (λ es. es ++ f (book ++ es)) one.0
          ∙ ap (λ so_far. (a.entries ++ added) ++ f so_far) (sym (append_assoc book a.entries added))
          ∙ append_assoc a.entries added (f (present ++ added))
          ∙ ap (λ es. a.entries ++ es) (sym (in_turn-push fs f present)),
      two.1,
    )

-- a desk that took the effects of the first of a list takes the one of the next
pub takes_next : {X : Type 0} (effect : X → Effect) (xs : List X) (i : ℕ) (d : X) (a b c : OnDesk) → i < length xs → Takes (in_turn (map effect (take i xs))) a b → Takes (effect (slice_index_or xs i d)) b c → Takes (in_turn (map effect (take (i + 1) xs))) a c
takes_next effect xs i d a b c inside others last =
    let x = slice_index_or xs i d in
    let same : map effect (take (i + 1) xs) ≡ map effect (take i xs) ++ effect x ∷ [] = ap (λ ys. map effect ys) (take_more xs i d inside) ∙ map-append effect (take i xs) (x ∷ []) in
    subst (λ (fs : List Effect). Takes (in_turn fs) a c) (sym same) (takes_last (map effect (take i xs)) (effect x) a b c others last)

-- the same entries, by another effect
pub takes_same : (f g : Effect) (a b : OnDesk) → ((book : Book) → IsPositionOf book a.position → f book ≡ g book) → Takes f a b → Takes g a b
takes_same f g a b same taken book h =
    let both = taken book h in
    (both.0 ∙ ap (λ (es : Book). a.entries ++ es) (same (book ++ a.entries) h), both.1)

-- a position that is lent stands for the book of the one that it is
pub shown : {book : Book} {p q : OnTable} → p ≡ q → IsPositionOf book q → IsPositionOf book p
shown {book} {p} {q} same h = subst (λ (r : OnTable). IsPositionOf book r) (sym same) h
