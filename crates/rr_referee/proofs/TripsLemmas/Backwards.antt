-- A path reads the same from its other end.
use Rattle.std.proofs.Common.{◌≡◌, ℕ, List, [], ◌∷◌, ◌++◌, sym, subst, ◌∙◌, refl, inl, inr}
use Rattle.std.specs.List.{Contains}
use Rattle.std.proofs.lemmas.List.Elements.{Contains-push_cases}
use Rattle.rr_routes.specs.declared.net.Node.{Node}
use Rattle.rr_routes.specs.declared.net.Node.TheVariants.{Hexside}
use Rattle.rr_routes.specs.Net.{Net, Joins}
use Rattle.rr_routes.specs.Routes.{Passes, Walk, one_link, goes_on, NoneTwice, last}
use Rattle.rr_routes.proofs.Elements.{Contains-here, Contains-there, Contains-nil}
use Rattle.rr_routes.proofs.Walks.{Joins-back, Passes-back}

-- the first of a list, or what stands in its place
abbrev pub first_of : {X : Type 0} → X → List X → X
first_of none [] = none
first_of none (x ∷ xs) = x

-- the last of a list, or what stands in its place
abbrev pub last_of : {X : Type 0} → X → List X → X
last_of none [] = none
last_of none (x ∷ xs) = last_of x xs

-- a list from its end to its start
abbrev pub back : {X : Type 0} → List X → List X
back [] = []
back (x ∷ xs) = back xs ++ x ∷ []

last_of-push : {X : Type 0} (d : X) (xs : List X) (x : X) → last_of d (xs ++ x ∷ []) ≡ x
last_of-push d [] x = refl
last_of-push d (y ∷ ys) x = last_of-push y ys x

first_of-push : {X : Type 0} (d : X) (xs : List X) (x : X) → first_of d (xs ++ x ∷ []) ≡ first_of x xs
first_of-push d [] x = refl
first_of-push d (y ∷ ys) x = refl

pub first_of-back : {X : Type 0} (d : X) (xs : List X) → first_of d (back xs) ≡ last_of d xs
first_of-back d [] = refl
first_of-back d (x ∷ xs) = first_of-push d (back xs) x ∙ first_of-back x xs

pub last_of-back : {X : Type 0} (d : X) (xs : List X) → last_of d (back xs) ≡ first_of d xs
last_of-back d [] = refl
last_of-back d (x ∷ xs) = last_of-push d (back xs) x

-- the last node, as routes know it
pub last_is : (node : Node) (nodes : List Node) → last_of node nodes ≡ last node nodes
last_is node [] = refl
last_is node (next ∷ nodes) = last_is next nodes

pub Contains-back : {X : Type 0} (xs : List X) (x : X) → Contains (back xs) x → Contains xs x
Contains-back [] x c = c
Contains-back (y ∷ ys) x c =
    elim (Contains-push_cases (back ys) y x c) [
      | inl before ↦ Contains-there y ys x (Contains-back ys x before)
      | inr is ↦ subst (λ z. Contains (y ∷ ys) z) is (Contains-here y ys)
    ]

NoneTwice-push : {X : Type 0} (xs : List X) (x : X) → NoneTwice xs → (Contains xs x → ⊥) → NoneTwice (xs ++ x ∷ [])
NoneTwice-push [] x none absent = (Contains-nil x, tt)
NoneTwice-push (y ∷ ys) x none absent = (
  λ c. elim (Contains-push_cases ys x y c) [
    | inl again ↦ none.0 again
    | inr is ↦ absent (subst (λ z. Contains (y ∷ ys) z) (sym is) (Contains-here y ys))
  ],
  NoneTwice-push ys x none.1 (λ c. absent (Contains-there y ys x c)),
)

pub NoneTwice-back : {X : Type 0} (xs : List X) → NoneTwice xs → NoneTwice (back xs)
NoneTwice-back [] none = tt
NoneTwice-back (x ∷ xs) none =
    NoneTwice-push (back xs) x (NoneTwice-back xs none.1) (λ c. none.0 (Contains-back xs x c))

module _ (net : Net) where
  -- a walk with one more link behind its last
  walk_push : {links : List ℕ} {nodes : List Node} → Walk net links nodes → (next : ℕ) (to : Node)
      → Passes net (last_of 0 links) (last_of (Hexside 0) nodes) next → Joins net next (last_of (Hexside 0) nodes) to
      → Walk net (links ++ next ∷ []) (nodes ++ to ∷ [])
  walk_push (one_link link from at joins) next to passes on = goes_on link next [] from at (to ∷ []) joins passes (one_link next at to on)
  walk_push (goes_on link second links from at nodes joins over rest) next to passes on =
      goes_on link second (links ++ next ∷ []) from at (nodes ++ to ∷ []) joins over (walk_push rest next to passes on)

  pub walk_back : {links : List ℕ} {nodes : List Node} → Walk net links nodes → Walk net (back links) (back nodes)
  walk_back (one_link link from to joins) = one_link link to from (Joins-back net link from to joins)
  walk_back (goes_on link next links from to nodes joins passes rest) =
      walk_push (walk_back rest) link from
      (subst (λ l. Passes net l (last_of (Hexside 0) (back (to ∷ nodes))) link) (sym (last_of-back 0 (next ∷ links)))
      (subst (λ n. Passes net next n link) (sym (last_of-back (Hexside 0) (to ∷ nodes))) (Passes-back net link to next passes)))
      (subst (λ n. Joins net link n from) (sym (last_of-back (Hexside 0) (to ∷ nodes))) (Joins-back net link from to joins))
