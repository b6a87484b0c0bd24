-- Reading one item more, and stopping at one.
use Rattle.std.proofs.Common.{◌≡◌, ℕ, ◌+◌, ◌<◌, refl, sym, ap, ◌∙◌, subst, append-nil, append_assoc, List, [], ◌∷◌, ◌++◌, length, map, get_or, take, Option, None, Some, option_and_then}
use Rattle.std.specs.Prelude.{fold}
use Rattle.std.proofs.lemmas.Option.{none-some, same_Some}
use Rattle.std.proofs.lemmas.List.{take_more, map-append}
use Rattle.std.proofs.lemmas.List.Sums.{fold-append}
use Rattle.std.proofs.lemmas.List.Folds.{fold-map, fold_stays, fold_stuck}
use Rattle.rr_tiles.specs.Each.{added}

pub added-none : {X Y : Type 0} (add : Y → X → Option Y) (start : Y) → added add start [] ≡ Some start
unfolding added
added-none add start = refl

pub added-one : {X Y : Type 0} (add : Y → X → Option Y) (start : Y) (items : List X) (item : X) → added add start (items ++ item ∷ []) ≡ option_and_then (λ y. add y item) (added add start items)
unfolding added
added-one add start items item = fold-append (λ so_far x. option_and_then (λ y. add y x) so_far) (Some start) items (item ∷ [])

-- one of the items that `f` sees
pub added-more : {W X Y : Type 0} (f : W → X) (add : Y → X → Option Y) (start : Y) (items : List W) (i : ℕ) (d : W) → i < length items → added add start (map f (take (i + 1) items)) ≡ option_and_then (λ y. add y (f (get_or items i d))) (added add start (map f (take i items)))
added-more f add start items i d within =
    ap (λ front. added add start (map f front)) (take_more items i d within)
    ∙ ap (added add start) (map-append f (take i items) (get_or items i d ∷ []))
    ∙ added-one add start (map f (take i items)) (f (get_or items i d))

-- the step of a loop that adds items
pub added-next : {W X Y : Type 0} (f : W → X) (add : Y → X → Option Y) (start : Y) (items : List W) (i : ℕ) (d : W) (y next : Y) → i < length items → added add start (map f (take i items)) ≡ Some y → Some next ≡ add y (f (get_or items i d)) → added add start (map f (take (i + 1) items)) ≡ Some next
added-next f add start items i d y next within so_far more =
    added-more f add start items i d within ∙ ap (option_and_then (λ z. add z (f (get_or items i d)))) so_far ∙ sym more

-- an item that may not be added stops the reading
pub added-stop : {W X Y : Type 0} (f : W → X) (add : Y → X → Option Y) (start : Y) (items : List W) (i : ℕ) (d : W) (y : Y) → i < length items → added add start (map f (take i items)) ≡ Some y → None ≡ add y (f (get_or items i d)) → None ≡ added add start (map f items)
unfolding added
added-stop {W} {X} {Y} f add start items i d y within so_far none =
    let step : Option Y → W → Option Y = λ read w. option_and_then (λ z. add z (f w)) read in
    let front : fold step (Some start) (take i items) ≡ Some y = sym (fold-map (λ read x. option_and_then (λ z. add z x) read) f (Some start) (take i items)) ∙ so_far in
    fold_stuck step None (λ w. refl) (Some start) items i d within (ap (λ read. step read (get_or items i d)) front ∙ sym none)
    ∙ sym (fold-map (λ read x. option_and_then (λ z. add z x) read) f (Some start) items)

-- the first item of several
pub added-cons : {X Y : Type 0} (add : Y → X → Option Y) (start next : Y) (item : X) (items : List X) → add start item ≡ Some next → added add start (item ∷ items) ≡ added add next items
unfolding added
added-cons add start next item items is = ap (λ first. fold (λ so_far x. option_and_then (λ y. add y x) so_far) first items) is

pub added-refused : {X Y : Type 0} (add : Y → X → Option Y) (start : Y) (item : X) (items : List X) → add start item ≡ None → added add start (item ∷ items) ≡ None
unfolding added
added-refused add start item items is =
    ap (λ first. fold (λ so_far x. option_and_then (λ y. add y x) so_far) first items) is ∙ fold_stays (λ so_far x. option_and_then (λ y. add y x) so_far) None (λ x. refl) items

-- the first step of several
step-some : {X Y : Type 0} (add : Y → X → Option Y) (start final : Y) (item : X) (items : List X) (read : Option Y) → add start item ≡ read → added add start (item ∷ items) ≡ Some final → (next : Y) × (add start item ≡ Some next) × (added add next items ≡ Some final)
step-some add start final item items None refused is = absurd (none-some final (sym (added-refused add start item items refused) ∙ is))
step-some add start final item items (Some next) one is = (next, one, sym (added-cons add start next item items one) ∙ is)

kept_behind : {X Y : Type 0} (add : Y → X → Option Y) (P : Y → List X → Type 0) → ((y next : Y) (xs : List X) (x : X) → P y xs → add y x ≡ Some next → P next (xs ++ x ∷ [])) → (done items : List X) (start final : Y) → P start done → added add start items ≡ Some final → P final (done ++ items)
kept_behind add P keeps done [] start final holds is =
    let same : start ≡ final = same_Some start final (sym (added-none add start) ∙ is) in
    subst (λ y. P y (done ++ [])) same (subst (P start) (sym (append-nil done)) holds)
kept_behind add P keeps done (item ∷ items) start final holds is =
    let first = step-some add start final item items (add start item) refl is in
    subst (P final) (append_assoc done (item ∷ []) items) (kept_behind add P keeps (done ++ item ∷ []) items first.0 final (keeps start first.0 done item holds first.1) first.2)

-- what holds at first and is kept by each item holds in the end
pub added-kept : {X Y : Type 0} (add : Y → X → Option Y) (P : Y → List X → Type 0) (start : Y) → P start [] → ((y next : Y) (xs : List X) (x : X) → P y xs → add y x ≡ Some next → P next (xs ++ x ∷ [])) → (items : List X) (final : Y) → added add start items ≡ Some final → P final items
added-kept add P start holds keeps items final is = kept_behind add P keeps [] items start final holds is

-- nothing comes of more items where some are refused
pub added-front_none : {X Y : Type 0} (add : Y → X → Option Y) (start : Y) (front rest : List X) → added add start front ≡ None → added add start (front ++ rest) ≡ None
unfolding added
added-front_none add start front rest none =
    fold-append (λ so_far x. option_and_then (λ y. add y x) so_far) (Some start) front rest
    ∙ ap (λ first. fold (λ so_far x. option_and_then (λ y. add y x) so_far) first rest) none
    ∙ fold_stays (λ so_far x. option_and_then (λ y. add y x) so_far) None (λ x. refl) rest
