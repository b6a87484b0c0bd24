-- Reading one word more, stopping at one, and what all of them are read as.
use Rattle.std.proofs.Common.{◌≡◌, ℕ, ◌+◌, ◌<◌, zero, suc, refl, ap, subst, ◌∙◌, List, [], ◌∷◌, ◌++◌, length, map, get_or, take, All, Bool, true, false, if◌then◌else◌, Option, None, Some, option_map, option_and_then, arith}
use Rattle.std.proofs.lemmas.List.{take_more, map-append}
use Rattle.std.proofs.lemmas.List.Elements.{All-nil, All-cons, All-head, All-tail}
use Rattle.rr_routes.specs.Sheets.Each.{each}

pub and_then-some : {X Y : Type 0} (f : X → Option Y) (o : Option X) (y : Y) → option_and_then f o ≡ Some y → (x : X) × (o ≡ Some x) × (f x ≡ Some y)
and_then-some f None y is = absurd (cc)
and_then-some f (Some x) y is = (x, refl, is)

pub map-some : {X Y : Type 0} (f : X → Y) (o : Option X) (y : Y) → option_map f o ≡ Some y → (x : X) × (o ≡ Some x) × (f x ≡ y)
map-some f None y is = absurd (cc)
map-some f (Some x) y is = let same : f x ≡ y = cc in (x, refl, same)

-- kept if a test holds
pub if-some : {X : Type 0} (test : Bool) (o : Option X) (y : X) → (if test then o else None) ≡ Some y → (test ≡ true) × (o ≡ Some y)
if-some true o y is = (refl, is)
if-some false o y is = absurd (cc)

pub each-none : {X : Type 0} (read : List ℕ → Option X) → each read [] ≡ Some []
unfolding each
each-none read = refl

-- one more behind those that were read
abbrev behind : {X : Type 0} → List X → X → List X
behind xs x = xs ++ x ∷ []

last_first : {X : Type 0} (first last : Option X) (front : Option (List X)) → option_and_then (λ x. option_map (λ xs. x ∷ xs) (option_and_then (λ xs. option_map (behind xs) last) front)) first ≡ option_and_then (λ xs. option_map (behind xs) last) (option_and_then (λ x. option_map (λ xs. x ∷ xs) front) first)
last_first None last front = refl
last_first (Some x) last None = refl
last_first (Some x) None (Some xs) = refl
last_first (Some x) (Some y) (Some xs) = refl

only_last : {X : Type 0} (last : Option X) → option_and_then (λ x. option_map (λ xs. x ∷ xs) (Some [])) last ≡ option_map (behind []) last
only_last None = refl
only_last (Some x) = refl

each-push : {X : Type 0} (read : List ℕ → Option X) (words : List (List ℕ)) (word : List ℕ) → each read (words ++ word ∷ []) ≡ option_and_then (λ xs. option_map (behind xs) (read word)) (each read words)
unfolding each
each-push read [] word = only_last (read word)
each-push read (first ∷ words) word =
    ap (λ rest. option_and_then (λ x. option_map (λ xs. x ∷ xs) rest) (read first)) (each-push read words word)
    ∙ last_first (read first) (read word) (each read words)

-- the step of a loop over what `see` shows as words
pub each-next : {W X : Type 0} (see : W → List ℕ) (read : List ℕ → Option X) (items : List W) (i : ℕ) (d : W) (xs : List X) (x : X) → i < length items → each read (map see (take i items)) ≡ Some xs → read (see (get_or items i d)) ≡ Some x → each read (map see (take (i + 1) items)) ≡ Some (xs ++ x ∷ [])
each-next see read items i d xs x within so_far one =
    ap (λ front. each read (map see front)) (take_more items i d within)
    ∙ ap (each read) (map-append see (take i items) (get_or items i d ∷ []))
    ∙ each-push read (map see (take i items)) (see (get_or items i d))
    ∙ ap (option_and_then (λ ys. option_map (behind ys) (read (see (get_or items i d))))) so_far
    ∙ ap (option_map (behind xs)) one

each-refused : {X : Type 0} (read : List ℕ → Option X) (word : List ℕ) (words : List (List ℕ)) → read word ≡ None → each read (word ∷ words) ≡ None
unfolding each
each-refused read word words none = ap (option_and_then (λ x. option_map (λ xs. x ∷ xs) (each read words))) none

behind-none : {X : Type 0} (first : Option X) → option_and_then {T = X} {U = List X} (λ x. option_map {T = List X} {U = List X} (λ xs. x ∷ xs) None) first ≡ None
behind-none None = refl
behind-none (Some x) = refl

each-none_behind : {X : Type 0} (read : List ℕ → Option X) (word : List ℕ) (words : List (List ℕ)) → each read words ≡ None → each read (word ∷ words) ≡ None
unfolding each
each-none_behind read word words none = ap (λ rest. option_and_then (λ x. option_map (λ xs. x ∷ xs) rest) (read word)) none ∙ behind-none (read word)

-- a word that can't be read
pub each-stop : {W X : Type 0} (see : W → List ℕ) (read : List ℕ → Option X) (items : List W) (i : ℕ) (d : W) → i < length items → read (see (get_or items i d)) ≡ None → each read (map see items) ≡ None
each-stop see read [] i d within none = absurd (omega arith)
each-stop see read (item ∷ items) zero d within none = each-refused read (see item) (map see items) none
each-stop see read (item ∷ items) (suc i) d within none = each-none_behind read (see item) (map see items) (each-stop see read items i d (omega arith) none)

each-cons : {X : Type 0} (read : List ℕ → Option X) (word : List ℕ) (words : List (List ℕ)) (all : List X) → each read (word ∷ words) ≡ Some all → (x : X) × (xs : List X) × (read word ≡ Some x) × (each read words ≡ Some xs) × (x ∷ xs ≡ all)
unfolding each
each-cons read word words all is =
    let first = and_then-some (λ x. option_map (λ xs. x ∷ xs) (each read words)) (read word) all is in
    let rest = map-some (λ xs. first.0 ∷ xs) (each read words) all first.2 in
    (first.0, rest.0, first.1, rest.1, rest.2)

-- what is read spells the words
pub each-found : {X : Type 0} (read : List ℕ → Option X) (spelling : X → List ℕ) (IsShort : X → Type 0) → ((word : List ℕ) (x : X) → read word ≡ Some x → (word ≡ spelling x) × IsShort x) → (words : List (List ℕ)) (xs : List X) → each read words ≡ Some xs → (words ≡ map spelling xs) × All IsShort xs
unfolding each
each-found read spelling IsShort found [] [] is = (refl, All-nil IsShort)
each-found read spelling IsShort found [] (x ∷ xs) is = absurd (cc)
each-found {X = X} read spelling IsShort found (word ∷ words) all is =
    let parts = each-cons read word words all is in
    let here = found word parts.0 parts.2 in
    let there = each-found read spelling IsShort found words parts.1 parts.3 in
    let P : List X → Type 0 = λ xs. (word ∷ words ≡ map spelling xs) × All IsShort xs in
    subst P parts.4 (ap (λ w. w ∷ words) here.0 ∙ ap (λ ws. spelling parts.0 ∷ ws) there.0, All-cons IsShort parts.0 parts.1 here.1 there.1)

-- what is spelled is read
pub each-again : {X : Type 0} (read : List ℕ → Option X) (spelling : X → List ℕ) (IsShort : X → Type 0) → ((x : X) → IsShort x → read (spelling x) ≡ Some x) → (xs : List X) → All IsShort xs → each read (map spelling xs) ≡ Some xs
unfolding each
each-again read spelling IsShort again [] short = refl
each-again read spelling IsShort again (x ∷ xs) short =
    ap (option_and_then (λ y. option_map (λ ys. y ∷ ys) (each read (map spelling xs)))) (again x (All-head IsShort x xs short))
    ∙ ap (option_map (λ ys. x ∷ ys)) (each-again read spelling IsShort again xs (All-tail IsShort x xs short))
