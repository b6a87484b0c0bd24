-- A route reads the same from either end.
use Rattle.std.proofs.Common.{◌≡◌, ℕ, ◌+◌, ◌≤◌, Bool, true, false, if◌then◌else◌, List, [], ◌∷◌, ◌++◌, length, reverse, refl, ap, sym, subst, ◌∙◌, ◌⊎◌, inl, inr, arith, add_comm}
use Rattle.std.specs.List.{Contains, AllByRecursion, sum_by}
use Rattle.std.proofs.lemmas.List.{append-nil, reverse-append, reverse-reverse, length-reverse}
use Rattle.std.proofs.lemmas.List.Elements.{Contains-push, Contains-push_cases, Contains-append_left}
use Rattle.std.proofs.lemmas.List.Sums.{sum_by-cons, sum_by-append}
use Rattle.rr_routes.specs.declared.net.Node.{Node}
use Rattle.rr_routes.specs.declared.net.Node.TheVariants.{Hexside, Centre}
use Rattle.rr_routes.specs.declared.net.Link.{Link}
use Rattle.rr_routes.specs.declared.net.CentreLimit.{CentreLimit}
use Rattle.rr_routes.specs.Net.{Net, Joins, IsCentre, IsTerminal, AreEnds, IsWithin}
use Rattle.rr_routes.specs.Routes.{Passes, Walk, one_link, goes_on, NoneTwice, inner, but_last, last, centres, worth, EndsAreCentres, NoTerminalInside, Trip, Route}
use Rattle.rr_routes.proofs.Elements.{Contains-here, Contains-there, Contains-cases, Contains-nil, All-contained, All-at}
use Rattle.rr_routes.proofs.Walks.{Joins-back, Passes-back, Joins-at_from, Walk-touched}
use Rattle.rr_search.specs.Orientation.{reversed, is_backward, ascending}

-- the first of a list, or what stands in its place
abbrev pub first_of : {X : Type 0} → X → List X → X
first_of none [] = none
first_of none (x ∷ xs) = x

-- the last of a list, or what stands in its place
abbrev pub last_of : {X : Type 0} → X → List X → X
last_of none [] = none
last_of none (x ∷ xs) = last_of x xs

-- a list from its end to its start
abbrev pub back : {X : Type 0} → List X → List X
back [] = []
back (x ∷ xs) = back xs ++ x ∷ []

reverse-single : {X : Type 0} (x : X) → reverse (x ∷ []) ≡ x ∷ []
reverse-single x = refl

pub reverse_is : {X : Type 0} (xs : List X) → reverse xs ≡ back xs
reverse_is [] = refl
reverse_is (x ∷ xs) = reverse-append (x ∷ []) xs ∙ ap (λ ys. reverse xs ++ ys) (reverse-single x) ∙ ap (λ ys. ys ++ x ∷ []) (reverse_is xs)

back-back : {X : Type 0} (xs : List X) → back (back xs) ≡ xs
back-back xs = sym (ap back (reverse_is xs)) ∙ sym (reverse_is (reverse xs)) ∙ reverse-reverse xs

length-back : {X : Type 0} (xs : List X) → length (back xs) ≡ length xs
length-back xs = ap (λ ys. length ys) (sym (reverse_is xs)) ∙ length-reverse xs

last_of-push : {X : Type 0} (d : X) (xs : List X) (x : X) → last_of d (xs ++ x ∷ []) ≡ x
last_of-push d [] x = refl
last_of-push d (y ∷ ys) x = last_of-push y ys x

first_of-push : {X : Type 0} (d : X) (xs : List X) (x : X) → first_of d (xs ++ x ∷ []) ≡ first_of x xs
first_of-push d [] x = refl
first_of-push d (y ∷ ys) x = refl

pub first_of-reverse : {X : Type 0} (d : X) (xs : List X) → first_of d (back xs) ≡ last_of d xs
first_of-reverse d [] = refl
first_of-reverse d (x ∷ xs) = first_of-push d (back xs) x ∙ first_of-reverse x xs

pub last_of-reverse : {X : Type 0} (d : X) (xs : List X) → last_of d (back xs) ≡ first_of d xs
last_of-reverse d [] = refl
last_of-reverse d (x ∷ xs) = last_of-push d (back xs) x

-- the last node, as routes know it
last_is : (node : Node) (nodes : List Node) → last_of node nodes ≡ last node nodes
last_is node [] = refl
last_is node (next ∷ nodes) = last_is next nodes

pub Contains-reverse : {X : Type 0} (xs : List X) (x : X) → Contains (back xs) x → Contains xs x
Contains-reverse [] x c = c
Contains-reverse (y ∷ ys) x c =
    elim (Contains-push_cases (back ys) y x c) [
      | inl before ↦ Contains-there y ys x (Contains-reverse ys x before)
      | inr is ↦ subst (λ z. Contains (y ∷ ys) z) is (Contains-here y ys)
    ]

Contains-reversed : {X : Type 0} (xs : List X) (x : X) → Contains xs x → Contains (back xs) x
Contains-reversed xs x c =
    Contains-reverse (back xs) x (subst (λ ys. Contains ys x) (sym (back-back xs)) c)

-- the links are the same in either direction
pub Contains-ascending : (links : List ℕ) (link : ℕ) → Contains links link → Contains (ascending links) link
Contains-ascending links link c =
    elim (is_backward links) as (λ b. Contains (if b then reverse links else links) link) [
      | true ↦ subst (λ ls. Contains ls link) (sym (reverse_is links)) (Contains-reversed links link c)
      | false ↦ c
    ]

pub ascending-Contains : (links : List ℕ) (link : ℕ) → Contains (ascending links) link → Contains links link
ascending-Contains links link =
    elim (is_backward links) as (λ b. Contains (if b then reverse links else links) link → Contains links link) [
      | true ↦ λ c. Contains-reverse links link (subst (λ ls. Contains ls link) (reverse_is links) c)
      | false ↦ λ c. c
    ]

NoneTwice-push : {X : Type 0} (xs : List X) (x : X) → NoneTwice xs → (Contains xs x → ⊥) → NoneTwice (xs ++ x ∷ [])
NoneTwice-push [] x none absent = (Contains-nil x, tt)
NoneTwice-push (y ∷ ys) x none absent = (
  λ c. elim (Contains-push_cases ys x y c) [
    | inl again ↦ none.0 again
    | inr is ↦ absent (subst (λ z. Contains (y ∷ ys) z) (sym is) (Contains-here y ys))
  ],
  NoneTwice-push ys x none.1 (λ c. absent (Contains-there y ys x c)),
)

NoneTwice-reverse : {X : Type 0} (xs : List X) → NoneTwice xs → NoneTwice (back xs)
NoneTwice-reverse [] none = tt
NoneTwice-reverse (x ∷ xs) none =
    NoneTwice-push (back xs) x (NoneTwice-reverse xs none.1) (λ c. none.0 (Contains-reverse xs x c))

centres-append : (xs ys : List Node) → centres (xs ++ ys) ≡ centres xs ++ centres ys
centres-append [] ys = refl
centres-append (Hexside side ∷ xs) ys = centres-append xs ys
centres-append (Centre centre ∷ xs) ys = ap (λ cs. centre ∷ cs) (centres-append xs ys)

centres-reverse : (nodes : List Node) → centres (back nodes) ≡ back (centres nodes)
centres-reverse [] = refl
centres-reverse (Hexside side ∷ nodes) =
    centres-append (back nodes) (Hexside side ∷ []) ∙ append-nil (centres (back nodes)) ∙ centres-reverse nodes
centres-reverse (Centre centre ∷ nodes) =
    centres-append (back nodes) (Centre centre ∷ []) ∙ ap (λ cs. cs ++ centre ∷ []) (centres-reverse nodes)

sum_by-reverse : (f : ℕ → ℕ) (xs : List ℕ) → sum_by f (back xs) ≡ sum_by f xs
sum_by-reverse f [] = refl
sum_by-reverse f (x ∷ xs) =
    let front = sum_by-append f (back xs) (x ∷ []) in
    let alone = sum_by-cons f x [] in
    let whole = sum_by-cons f x xs in
    let rest = sum_by-reverse f xs in
    omega (arith, front, alone, whole, rest)

pub worth-reverse : (net : Net) (nodes : List Node) → worth net (centres (back nodes)) ≡ worth net (centres nodes)
worth-reverse net nodes =
    ap (worth net) (centres-reverse nodes) ∙ sum_by-reverse (Rattle.rr_routes.specs.Net.value net) (centres nodes)

module _ (net : Net) where
  -- a walk with one more link behind its last
  walk_push : {links : List ℕ} {nodes : List Node} → Walk net links nodes → (next : ℕ) (to : Node)
      → Passes net (last_of 0 links) (last_of (Hexside 0) nodes) next → Joins net next (last_of (Hexside 0) nodes) to
      → Walk net (links ++ next ∷ []) (nodes ++ to ∷ [])
  walk_push (one_link link from at joins) next to passes on = goes_on link next [] from at (to ∷ []) joins passes (one_link next at to on)
  walk_push (goes_on link second links from at nodes joins over rest) next to passes on =
      goes_on link second (links ++ next ∷ []) from at (nodes ++ to ∷ []) joins over (walk_push rest next to passes on)

  walk_back : {links : List ℕ} {nodes : List Node} → Walk net links nodes → Walk net (back links) (back nodes)
  walk_back (one_link link from to joins) = one_link link to from (Joins-back net link from to joins)
  walk_back (goes_on link next links from to nodes joins passes rest) =
      walk_push (walk_back rest) link from
      (subst (λ l. Passes net l (last_of (Hexside 0) (back (to ∷ nodes))) link) (sym (last_of-reverse 0 (next ∷ links)))
      (subst (λ n. Passes net next n link) (sym (last_of-reverse (Hexside 0) (to ∷ nodes))) (Passes-back net link to next passes)))
      (subst (λ n. Joins net link n from) (sym (last_of-reverse (Hexside 0) (to ∷ nodes))) (Joins-back net link from to joins))

  -- ends that are centres
  ends_pushed : (nodes : List Node) (node : Node) → IsCentre (first_of node nodes) → IsCentre node → EndsAreCentres (nodes ++ node ∷ [])
  ends_pushed [] node first end = (first, end)
  ends_pushed (start ∷ nodes) node first end =
      (first, subst IsCentre (sym (sym (last_is start (nodes ++ node ∷ [])) ∙ last_of-push start nodes node)) end)

  ends_back : (nodes : List Node) → EndsAreCentres nodes → EndsAreCentres (back nodes)
  ends_back [] ends = ends
  ends_back (node ∷ nodes) ends =
      ends_pushed (back nodes) node (subst IsCentre (sym (first_of-reverse node nodes ∙ last_is node nodes)) ends.1) ends.0

  -- what lies inside
  but_last-push : (node : Node) (nodes : List Node) (end : Node) → but_last node (nodes ++ end ∷ []) ≡ node ∷ nodes
  but_last-push node [] end = refl
  but_last-push node (next ∷ nodes) end = ap (λ ns. node ∷ ns) (but_last-push next nodes end)

  inner-push : (start : Node) (nodes : List Node) (end : Node) → inner (start ∷ (nodes ++ end ∷ [])) ≡ nodes
  inner-push start [] end = refl
  inner-push start (next ∷ nodes) end = but_last-push next nodes end

  inner_back : (nodes : List Node) (node : Node) → Contains (inner (back nodes)) node → Contains (inner nodes) node
  inner_back [] node c = c
  inner_back (start ∷ nodes) node c =
      let front = back-back nodes in
      from_last start (back nodes) nodes front node c
    where
      from_last : (start : Node) (behind nodes : List Node) → back behind ≡ nodes → (node : Node)
          → Contains (inner (behind ++ start ∷ [])) node → Contains (inner (start ∷ nodes)) node
      from_last start [] nodes is node c = absurd (Contains-nil node c)
      from_last start (end ∷ behind) nodes is node c =
          subst (λ ns. Contains (inner (start ∷ ns)) node) is
          (subst (λ ns. Contains ns node) (sym (inner-push start (back behind) end))
          (Contains-reversed behind node (subst (λ ns. Contains ns node) (inner-push end behind start) c)))

  clear_back : (nodes : List Node) → NoTerminalInside net nodes → NoTerminalInside net (back nodes)
  clear_back nodes clear =
      All-contained (λ node. IsTerminal net node → ⊥) (inner (back nodes))
      (λ node c. All-at (λ node. IsTerminal net node → ⊥) (inner nodes) clear node (inner_back nodes node c))

  Route-back : (limit : CentreLimit) (links : List ℕ) (nodes : List Node) → Route net limit (record { links = links; nodes = nodes })
      → Route net limit (record { links = back links; nodes = back nodes })
  Route-back limit links nodes route = record {
    path = (walk_back route.path.0, NoneTwice-reverse nodes route.path.1);
    ends = ends_back nodes route.ends;
    no_terminal = clear_back nodes route.no_terminal;
    token = (route.token.0, Contains-reversed nodes route.token.0 route.token.1, route.token.2);
    counted = subst (λ n. IsWithin limit n)
        (sym (length-back (centres nodes)) ∙ ap (λ (cs : List ℕ). length cs) (sym (centres-reverse nodes))) route.counted;
  }

  pub Route-reversed : (limit : CentreLimit) (trip : Trip) → Route net limit trip → Route net limit (reversed trip)
  Route-reversed limit trip route =
      subst (λ (ls : List ℕ). Route net limit (record { links = ls; nodes = reverse trip.nodes })) (sym (reverse_is trip.links))
      (subst (λ (ns : List Node). Route net limit (record { links = back trip.links; nodes = ns })) (sym (reverse_is trip.nodes))
      (Route-back limit trip.links trip.nodes route))

  -- one end of a link is a hexside
  no_centres : (link : Link) (from to : Node) → AreEnds link from to → IsCentre from → IsCentre to → ⊥
  no_centres link from to (inl ends) one other = subst IsCentre ends.0 one
  no_centres link from to (inr ends) one other = subst IsCentre ends.1 other

  Contains-last_of : (first : ℕ) (links : List ℕ) → Contains (first ∷ links) (last_of first links)
  Contains-last_of first [] = Contains-here first []
  Contains-last_of first (next ∷ links) = Contains-there first (next ∷ links) (last_of next links) (Contains-last_of next links)

  -- the first and the last link of a route differ
  ends_differ : {links : List ℕ} {nodes : List Node} → Walk net links nodes → NoneTwice nodes → EndsAreCentres nodes → first_of 0 links ≡ last_of 0 links → ⊥
  ends_differ (one_link link from to joins) none ends same = no_centres joins.0 from to joins.2 ends.0 ends.1
  ends_differ (goes_on first next links from to nodes joins passes rest) none ends same =
      none.0 (Walk-touched net rest first from (subst (λ l. Contains (next ∷ links) l) (sym same) (Contains-last_of next links))
      (Joins-at_from net first from to joins))

  pub Route-ends_differ : (limit : CentreLimit) (trip : Trip) → Route net limit trip → first_of 0 trip.links ≡ last_of 0 trip.links → ⊥
  Route-ends_differ limit trip route same = ends_differ route.path.0 route.path.1 route.ends same
