-- How a book goes on by effects, and what a new train brings about.
use Rattle.std.specs.Prelude.{◌≡◌, Bool, true, false, List, [], ◌∷◌, ◌++◌, map, ◌&&◌, refl}
use Rattle.std.specs.List.{list_all}
use Rattle.std.proofs.Common.{sym, ◌∙◌, ap, subst, cond, append_assoc, append-nil}
use Rattle.std.proofs.lemmas.Bool.{and_parts}
use Rattle.std.proofs.lemmas.List.Folds.{list_all-append}
use Rattle.rr_roster.specs.declared.company.Private.{Private}
use Rattle.rr_roster.specs.declared.company.Private.TheVariants as V
use Rattle.rr_roster.specs.declared.company.Corp.{Corp}
use Rattle.rr_roster.specs.declared.company.Corp.TheVariants as C
use Rattle.rr_roster.specs.declared.company.Kind.{Kind}
use Rattle.rr_roster.specs.declared.company.Kind.TheVariants as K
use Rattle.rr_roster.specs.Company.{privates}
use Rattle.rr_books.specs.declared.parties.Place.TheVariants as L
use Rattle.rr_books.specs.declared.entries.Entry.{Entry}
use Rattle.rr_books.specs.declared.entries.Entry.TheVariants as E
use Rattle.rr_books.specs.Book.{Book}
use Rattle.rr_desk.specs.Effects.{Effect, in_turn}
use Rattle.rr_market.specs.Operations.Phases.{train_numbers}
use Rattle.rr_trains.specs.Effects.{all_close, all_rust, closes, closes_own_private, first_if, first_of_kind, first_train, rusts}

-- what holds of a book that goes on by an effect and then by others
pub goes_on : (P : Book → Type 0) (f : Effect) (fs : List Effect) (book : Book) → P ((book ++ f book) ++ in_turn fs (book ++ f book)) → P (book ++ in_turn (f ∷ fs) book)
goes_on P f fs book h = subst P (append_assoc book (f book) (in_turn fs (book ++ f book))) h

pub goes_no_further : (P : Book → Type 0) (book : Book) → P book → P (book ++ in_turn [] book)
goes_no_further P book h = subst P (sym (append-nil book)) h

-- what each of some entries keeps, they keep together
pub kept_by : (P : Book → Type 0) (may : Entry → Bool) → ((book : Book) (e : Entry) → may e ≡ true → P book → P (book ++ e ∷ [])) → (es book : Book) → list_all may es ≡ true → P book → P (book ++ es)
kept_by P may keeps [] book all h = subst P (sym (append-nil book)) h
kept_by P may keeps (e ∷ es) book all h =
    let parts = and_parts (may e) (list_all may es) all in
    subst P (append_assoc book (e ∷ []) es) (kept_by P may keeps es (book ++ e ∷ []) parts.1 (keeps book e parts.0 h))

-- something leaves the game
abbrev pub ends : Entry → Bool
ends (E.Train t L.Gone) = true
ends (E.Move cert L.Gone) = true
ends _ = false

-- nothing but that
abbrev EndsOnly : Effect → Type 0
EndsOnly f = (book : Book) → list_all ends (f book) ≡ true

ends_both : (one others : Book) → list_all ends one ≡ true → list_all ends others ≡ true → list_all ends (one ++ others) ≡ true
ends_both one others a b = list_all-append ends one others ∙ ap (λ (x : Bool). x && list_all ends others) a ∙ b

ends_then : (f : Effect) (fs : List Effect) → EndsOnly f → EndsOnly (in_turn fs) → EndsOnly (in_turn (f ∷ fs))
ends_then f fs first others book = ends_both (f book) (in_turn fs (book ++ f book)) (first book) (others (book ++ f book))

ends_each : {X : Type 0} (effect : X → Effect) → ((x : X) → EndsOnly (effect x)) → (xs : List X) → EndsOnly (in_turn (map effect xs))
ends_each effect each [] book = refl
ends_each effect each (x ∷ xs) book = ends_then (effect x) (map effect xs) (each x) (ends_each effect each xs) book

ends_if : (b : Bool) (e : Entry) → ends e ≡ true → list_all ends (cond b (e ∷ []) []) ≡ true
ends_if true e h = rw h refl
ends_if false e h = refl

rusts_ends : (kind : Kind) → EndsOnly (all_rust kind)
unfolding all_rust rusts
rusts_ends kind = ends_each (rusts kind) (λ number book. ends_if _ _ refl) train_numbers

closes_ends : (p : Private) → EndsOnly (closes p)
unfolding closes
closes_ends p book = ends_if _ _ refl

all_close_ends : EndsOnly all_close
unfolding all_close
all_close_ends = ends_each closes closes_ends privates

kind_ends : (kind : Kind) → EndsOnly (first_of_kind kind)
kind_ends K.Two book = refl
kind_ends K.Three book = refl
kind_ends K.Four book = rusts_ends K.Two book
kind_ends K.Five book = all_close_ends book
kind_ends K.Six book = rusts_ends K.Three book
kind_ends K.Diesel book = rusts_ends K.Four book

first_ends : (is_first : Bool) (kind : Kind) → EndsOnly (first_if is_first kind)
first_ends true kind book = kind_ends kind book
first_ends false kind book = refl

own_ends : (c : Corp) → EndsOnly (closes_own_private c)
own_ends C.Bo book = closes_ends V.Bo book
own_ends C.Prr book = refl
own_ends C.Nyc book = refl
own_ends C.Cpr book = refl
own_ends C.Co book = refl
own_ends C.Erie book = refl
own_ends C.Nynh book = refl
own_ends C.Bm book = refl

-- a corporation's new train brings about that things leave the game, and nothing else
pub train_ends : (is_first : Bool) (kind : Kind) (c : Corp) (book : Book) → list_all ends (first_train is_first kind c book) ≡ true
unfolding first_train
train_ends is_first kind c =
    ends_then (first_if is_first kind) (closes_own_private c ∷ []) (first_ends is_first kind)
    (ends_then (closes_own_private c) [] (own_ends c) (λ book. refl))
