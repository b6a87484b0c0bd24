-- Lemmas on what lists contain.
use Rattle.std.proofs.Common.{◌≡◌, ℕ, zero, suc, ◌+◌, ◌<◌, ◌≤◌, List, [], ◌∷◌, length, get_or, map, take, refl, ap, sym, subst, ◌∙◌, ◌⊎◌, inl, inr, arith}
use Rattle.std.specs.List.{AllByRecursion, Contains, sum_by}
use Rattle.std.proofs.lemmas.Bool.{cases_eq}
use Rattle.std.proofs.lemmas.List.Sums.{sum_by-cons}
use Rattle.rr_routes.specs.Greatest.{IsDescending}
use Rattle.rr_routes.specs.Routes.{NoneTwice}

pub Contains-here : {X : Type 0} (x : X) (xs : List X) → Contains (x ∷ xs) x
Contains-here x xs = (0, omega arith, refl)

pub Contains-there : {X : Type 0} (x : X) (xs : List X) (y : X) → Contains xs y → Contains (x ∷ xs) y
Contains-there x xs y c = (suc c.0, omega (arith, c.1), c.2)

place_cases : {X : Type 0} (x : X) (xs : List X) (y : X) (k : ℕ) → k < length (x ∷ xs) → get_or (x ∷ xs) k y ≡ y → (x ≡ y) ⊎ Contains xs y
place_cases x xs y zero in' is = inl is
place_cases x xs y (suc k) in' is = inr (k, omega arith, is)

pub Contains-cases : {X : Type 0} (x : X) (xs : List X) (y : X) → Contains (x ∷ xs) y → (x ≡ y) ⊎ Contains xs y
Contains-cases x xs y c = place_cases x xs y c.0 c.1 c.2

pub Contains-nil : {X : Type 0} (y : X) → Contains [] y → ⊥
Contains-nil y c = omega (arith, c.1)

pub Contains-single : {X : Type 0} (x y : X) → Contains (x ∷ []) y → x ≡ y
Contains-single x y c = elim (Contains-cases x [] y c) [ inl is ↦ is | inr none ↦ absurd (Contains-nil y none) ]

-- whether a number is in a list
pub contained : (xs : List ℕ) (x : ℕ) → Contains xs x ⊎ (Contains xs x → ⊥)
contained [] x = inr (Contains-nil x)
contained (y ∷ ys) x =
    elim (cases_eq y x) [
      | inl same ↦ inl (subst (λ e. Contains (y ∷ ys) e) same (Contains-here y ys))
      | inr differ ↦ elim (contained ys x) [
        | inl later ↦ inl (Contains-there y ys x later)
        | inr none ↦ inr (λ c. elim (Contains-cases y ys x c) [ inl same ↦ differ same | inr later ↦ none later ])
      ]
    ]

pub All-contained : {X : Type 0} (P : X → Type 0) (xs : List X) → ((x : X) → Contains xs x → P x) → AllByRecursion P xs
All-contained P [] each = tt
All-contained P (x ∷ xs) each = (each x (Contains-here x xs), All-contained P xs (λ y c. each y (Contains-there x xs y c)))

pub All-at : {X : Type 0} (P : X → Type 0) (xs : List X) → AllByRecursion P xs → (x : X) → Contains xs x → P x
All-at P [] all x c = absurd (Contains-nil x c)
All-at P (y ∷ ys) all x c =
    elim (Contains-cases y ys x c) [ inl is ↦ subst P is all.0 | inr later ↦ All-at P ys all.1 x later ]

-- the list without one place of an element
record Without {X : Type 0} (xs : List X) (x : X) : Type 0 where
  rest : List X
  one_less : length xs ≡ suc (length rest)
  sums : (f : X → ℕ) → sum_by f xs ≡ f x + sum_by f rest
  others : (y : X) → Contains xs y → (x ≡ y) ⊎ Contains rest y
  within : (y : X) → Contains rest y → Contains xs y
  none_twice : NoneTwice xs → (Contains rest x → ⊥) × NoneTwice rest

without_first : {X : Type 0} (y : X) (ys : List X) (x : X) → y ≡ x → Without (y ∷ ys) x
without_first y ys x is =
    record {
      rest = ys;
      one_less = refl;
      sums = λ f. sum_by-cons f y ys ∙ ap (λ z. f z + sum_by f ys) is;
      others = λ z c. elim (Contains-cases y ys z c) [ inl same ↦ inl (sym is ∙ same) | inr later ↦ inr later ];
      within = λ z c. Contains-there y ys z c;
      none_twice = λ none. (λ c. none.0 (subst (λ z. Contains ys z) (sym is) c), none.1);
    }

without_later : {X : Type 0} (y : X) (ys : List X) (x : X) → Contains ys x → Without ys x → Without (y ∷ ys) x
without_later y ys x later less =
    record {
      rest = y ∷ less.rest;
      one_less = ap suc less.one_less;
      sums = λ f.
          let whole = sum_by-cons f y ys in
          let part = sum_by-cons f y less.rest in
          let inside = less.sums f in
          omega (arith, whole, part, inside);
      others = λ z c. elim (Contains-cases y ys z c) [
        | inl same ↦ inr (subst (λ e. Contains (y ∷ less.rest) e) same (Contains-here y less.rest))
        | inr behind ↦ elim (less.others z behind) [ inl is ↦ inl is | inr kept ↦ inr (Contains-there y less.rest z kept) ]
      ];
      within = λ z c. elim (Contains-cases y less.rest z c) [
        | inl same ↦ subst (λ e. Contains (y ∷ ys) e) same (Contains-here y ys)
        | inr behind ↦ Contains-there y ys z (less.within z behind)
      ];
      none_twice = λ none. (
        λ c. elim (Contains-cases y less.rest x c) [
          | inl same ↦ none.0 (subst (λ e. Contains ys e) (sym same) later)
          | inr behind ↦ (less.none_twice none.1).0 behind
        ],
        (λ c. none.0 (less.within y c), (less.none_twice none.1).1),
      );
    }

without : {X : Type 0} (ys : List X) (x : X) → Contains ys x → Without ys x
without [] x c = absurd (Contains-nil x c)
without (y ∷ ys) x c =
    elim (Contains-cases y ys x c) [
      | inl is ↦ without_first y ys x is
      | inr later ↦ without_later y ys x later (without ys x later)
    ]

-- elements of which none stands twice are no more than the list has
pub length_within : {X : Type 0} (xs ys : List X) → NoneTwice xs → ((x : X) → Contains xs x → Contains ys x) → length xs ≤ length ys
length_within [] ys none all = omega arith
length_within (x ∷ xs) ys none all =
    let less = without ys x (all x (Contains-here x xs)) in
    let rest : length xs ≤ length less.rest = length_within xs less.rest none.1 (λ y c.
    elim (less.others y (all y (Contains-there x xs y c))) [
      | inl same ↦ absurd (none.0 (subst (λ e. Contains xs e) (sym same) c))
      | inr kept ↦ kept
    ]) in
    omega (arith, less.one_less)

-- nor do they sum to more, where those beside the list count nothing
pub sum_within : {X : Type 0} (f : X → ℕ) (xs ys : List X) → NoneTwice xs → ((x : X) → Contains xs x → Contains ys x ⊎ (f x ≡ 0)) → sum_by f xs ≤ sum_by f ys
sum_within f [] ys none all = omega arith
sum_within {X} f (x ∷ xs) ys none all =
    let whole = sum_by-cons f x xs in
    elim (all x (Contains-here x xs)) [
      | inl c ↦
          let less = without ys x c in
          let rest : sum_by f xs ≤ sum_by f less.rest = sum_within f xs less.rest none.1 (others less) in
          omega (arith, whole, less.sums f, rest)
      | inr nothing ↦
          let rest : sum_by f xs ≤ sum_by f ys = sum_within f xs ys none.1 (λ y c. all y (Contains-there x xs y c)) in
          omega (arith, whole, nothing, rest)
    ]
  where
    others : (less : Without ys x) → (y : X) → Contains xs y → Contains less.rest y ⊎ (f y ≡ 0)
    others less y c =
        elim (all y (Contains-there x xs y c)) [
          | inl there ↦ elim (less.others y there) [
            | inl same ↦ absurd (none.0 (subst (λ e. Contains xs e) (sym same) c))
            | inr kept ↦ inl kept
          ]
          | inr nothing ↦ inr nothing
        ]

-- two lists of the same elements, none twice, sum to the same
pub sum_same : {X : Type 0} (f : X → ℕ) (xs ys : List X) → NoneTwice xs → NoneTwice ys → ((x : X) → Contains xs x → Contains ys x) → ((x : X) → Contains ys x → Contains xs x)
    → sum_by f xs ≡ sum_by f ys
sum_same f xs ys none once there here =
    let up : sum_by f xs ≤ sum_by f ys = sum_within f xs ys none (λ x c. inl (there x c)) in
    let down : sum_by f ys ≤ sum_by f xs = sum_within f ys xs once (λ x c. inl (here x c)) in
    omega (arith, up, down)

-- the first few of a descending list sum to the most
pub sum_greatest : (f : ℕ → ℕ) (most : ℕ) (xs ys : List ℕ) → NoneTwice xs → ((x : ℕ) → Contains xs x → Contains ys x) → IsDescending f ys → length xs ≤ most
    → sum_by f xs ≤ sum_by f (take most ys)
sum_greatest f most [] ys none all descending few = omega arith
sum_greatest f zero (x ∷ xs) ys none all descending few = omega arith
sum_greatest f (suc most) (x ∷ xs) [] none all descending few = absurd (Contains-nil x (all x (Contains-here x xs)))
sum_greatest f (suc most) (x ∷ xs) (y ∷ ys) none all descending few =
    elim (contained (x ∷ xs) y) [
      | inl c ↦
          let less = without (x ∷ xs) y c in
          let alone = less.none_twice none in
          let rest : sum_by f less.rest ≤ sum_by f (take most ys) = sum_greatest f most less.rest ys alone.1
          (λ z d. elim (Contains-cases y ys z (all z (less.within z d))) [
            | inl same ↦ absurd (alone.0 (subst (λ e. Contains less.rest e) (sym same) d))
            | inr later ↦ later
          ]) descending.1 (omega (arith, less.one_less)) in
          omega (arith, less.sums f, sum_by-cons f y (take most ys), rest)
      | inr out ↦
          let behind : (z : ℕ) → Contains (x ∷ xs) z → Contains ys z = λ z d. elim (Contains-cases y ys z (all z d)) [
            | inl same ↦ absurd (out (subst (λ e. Contains (x ∷ xs) e) (sym same) d))
            | inr later ↦ later
          ] in
          let less : f x ≤ f y = All-at (λ z. f z ≤ f y) ys descending.0 x (behind x (Contains-here x xs)) in
          let rest : sum_by f xs ≤ sum_by f (take most ys) = sum_greatest f most xs ys none.1 (λ z d. behind z (Contains-there x xs z d)) descending.1 (omega arith) in
          omega (arith, sum_by-cons f x xs, sum_by-cons f y (take most ys), less, rest)
    ]

pub sum_by-map : {X Y : Type 0} (f : Y → ℕ) (g : X → Y) (xs : List X) → sum_by f (map g xs) ≡ sum_by (λ x. f (g x)) xs
sum_by-map f g [] = refl
sum_by-map f g (x ∷ xs) =
    sum_by-cons f (g x) (map g xs) ∙ ap (λ s. f (g x) + s) (sum_by-map f g xs) ∙ sym (sum_by-cons (λ y. f (g y)) x xs)

-- lists of one length sum in order as their elements do
pub sum_by-pointwise : {X : Type 0} (f : X → ℕ) (xs ys : List X) (d : X) → length xs ≡ length ys
    → ((i : ℕ) → i < length xs → f (get_or xs i d) ≤ f (get_or ys i d)) → sum_by f xs ≤ sum_by f ys
sum_by-pointwise f [] ys d same each = omega arith
sum_by-pointwise f (x ∷ xs) [] d same each = omega arith
sum_by-pointwise f (x ∷ xs) (y ∷ ys) d same each =
    let first : f x ≤ f y = each 0 (omega arith) in
    let rest : sum_by f xs ≤ sum_by f ys = sum_by-pointwise f xs ys d (omega arith) (λ i in'. each (suc i) (omega arith)) in
    omega (arith, sum_by-cons f x xs, sum_by-cons f y ys, first, rest)

-- what stands among the first few stands in the list
pub Contains-take : {X : Type 0} (most : ℕ) (xs : List X) (x : X) → Contains (take most xs) x → Contains xs x
Contains-take zero xs x c = absurd (Contains-nil x c)
Contains-take (suc most) [] x c = absurd (Contains-nil x c)
Contains-take (suc most) (y ∷ ys) x c =
    elim (Contains-cases y (take most ys) x c) [
      | inl is ↦ subst (λ e. Contains (y ∷ ys) e) is (Contains-here y ys)
      | inr later ↦ Contains-there y ys x (Contains-take most ys x later)
    ]

pub NoneTwice-take : {X : Type 0} (most : ℕ) (xs : List X) → NoneTwice xs → NoneTwice (take most xs)
NoneTwice-take zero xs none = tt
NoneTwice-take (suc most) [] none = tt
NoneTwice-take (suc most) (y ∷ ys) none = (λ c. none.0 (Contains-take most ys y c), NoneTwice-take most ys none.1)
