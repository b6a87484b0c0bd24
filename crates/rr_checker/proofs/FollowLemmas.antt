-- Going along links from a node on finds the only path over all of them.
use Rattle.std.proofs.Common.{◌≡◌, ℕ, ◌+◌, ◌<◌, ◌≤◌, ◌⊎◌, ◌&&◌, not, Bool, true, false, List, [], ◌∷◌, ◌++◌, length, get_or, refl, sym, ◌∙◌, ap, subst, inl, inr, arith, append_assoc, append-nil}
use Rattle.std.specs.Bool.{Decides}
use Rattle.std.specs.List.{Contains, slice_get}
use Rattle.std.proofs.lemmas.Bool.{cases_eq}
use Rattle.std.proofs.lemmas.Bool.Decides.{Decides-not, Decides-and}
use Rattle.std.proofs.lemmas.List.{length-append, get_or_default}
use Rattle.rr_routes.specs.declared.net.Node.{Node}
use Rattle.rr_routes.specs.declared.net.Node.TheVariants.{Hexside}
use Rattle.rr_routes.specs.declared.net.Link.{Link}
use Rattle.rr_routes.specs.Net.{Net, AreEnds, Joins, Touches}
use Rattle.rr_routes.specs.Routes.{Walk, one_link, goes_on, NoneTwice, Path}
use Rattle.rr_routes.proofs.Elements.{Contains-here, Contains-there, Contains-cases, Contains-nil, length_within}
use Rattle.rr_routes.proofs.Walks.{Joins-at_from, Walk-touched, only_first}
use Rattle.rr_checker.specs.Steps.{same_node}
use Rattle.rr_checker.specs.Index.{IsNoted, is_noted}
use Rattle.rr_checker.specs.Own.{touches}
use Rattle.rr_checker.specs.Trips.{far, far_end, SameElements, IsOnlyWay}
use Rattle.rr_checker.proofs.IndexLemmas.{Decides-is_noted}
use Rattle.rr_checker.proofs.StepLemmas.{yes, no, Decides-same_node}
use Rattle.rr_checker.proofs.OwnLemmas.{Decides-touches}

Contains-left : (xs ys : List ℕ) (x : ℕ) → Contains xs x → Contains (xs ++ ys) x
Contains-left [] ys x c = absurd (Contains-nil x c)
Contains-left (y ∷ xs) ys x c =
    elim (Contains-cases y xs x c) [
      | inl is ↦ subst (λ e. Contains (y ∷ xs ++ ys) e) is (Contains-here y (xs ++ ys))
      | inr later ↦ Contains-there y (xs ++ ys) x (Contains-left xs ys x later)
    ]

Contains-right : (xs ys : List ℕ) (x : ℕ) → Contains ys x → Contains (xs ++ ys) x
Contains-right [] ys x c = c
Contains-right (y ∷ xs) ys x c = Contains-there y (xs ++ ys) x (Contains-right xs ys x c)

Contains-either : (xs ys : List ℕ) (x : ℕ) → Contains (xs ++ ys) x → Contains xs x ⊎ Contains ys x
Contains-either [] ys x c = inr c
Contains-either (y ∷ xs) ys x c =
    elim (Contains-cases y (xs ++ ys) x c) [
      | inl is ↦ inl (subst (λ e. Contains (y ∷ xs) e) is (Contains-here y xs))
      | inr later ↦ elim (Contains-either xs ys x later) [ inl left ↦ inl (Contains-there y xs x left) | inr right ↦ inr right ]
    ]

apart_once : (xs ys : List ℕ) (y : ℕ) → NoneTwice (xs ++ y ∷ ys) → Contains xs y → ⊥
apart_once [] ys y none c = Contains-nil y c
apart_once (x ∷ xs) ys y none c =
    elim (Contains-cases x xs y c) [
      | inl is ↦ none.0 (subst (λ e. Contains (xs ++ y ∷ ys) e) (sym is) (Contains-right xs (y ∷ ys) y (Contains-here y ys)))
      | inr later ↦ apart_once xs ys y none.1 later
    ]

far_to : (link : Link) (from to : Node) → AreEnds link from to → far from link ≡ to
far_to link from to ends = decided (same_node from (Hexside link.side)) refl ends
  where
    decided : (b : Bool) → same_node from (Hexside link.side) ≡ b → AreEnds link from to → far from link ≡ to
    decided true e (inl is) = rw e (sym is.1)
    decided true e (inr is) = rw e (sym is.0 ∙ yes (Decides-same_node from (Hexside link.side)) e ∙ sym is.1)
    decided false e (inl is) = absurd (no (Decides-same_node from (Hexside link.side)) e is.0)
    decided false e (inr is) = rw e (sym is.1)

pub far_end_to : (net : Net) (link : ℕ) (from to : Node) → Joins net link from to → far_end (slice_get net.links link) from ≡ to
far_end_to net link from to joins = rw joins.1 (far_to joins.0 from to joins.2)

-- no link stands twice in a path
path_once : (net : Net) {links : List ℕ} {nodes : List Node} → Walk net links nodes → NoneTwice nodes → NoneTwice links
path_once net (one_link link from to joins) none = (λ c. Contains-nil link c, tt)
path_once net (goes_on link next links from to nodes joins passes rest) none =
    (λ c. none.0 (Walk-touched net rest link from c (Joins-at_from net link from to joins)), path_once net rest none.1)

module _ (net : Net) where
  -- the rest of a path, from a node on
  abbrev pub Onward : Node → List ℕ → List Node → Type 0
  Onward at [] behind = behind ≡ []
  Onward at (link ∷ links) behind = Walk net (link ∷ links) (at ∷ behind) × NoneTwice (at ∷ behind)

  -- the links and nodes so far are the front of the path
  pub record IsFront (whole : List ℕ) (along : List Node) (links : List ℕ) (nodes : List Node) (at : Node) : Type 0 where
    pub tail : List ℕ
    pub behind : List Node
    pub links_are : links ++ tail ≡ whole
    pub nodes_are : nodes ++ behind ≡ along
    pub onward : Onward at tail behind

  -- whatever path goes over the links from the start, this is the front of it
  abbrev pub IsUnderWay : List ℕ → Node → List ℕ → List Node → Node → Type 0
  IsUnderWay own start links nodes at =
      (others : List ℕ) (behind : List Node) → Path net others (start ∷ behind) → SameElements others own → IsFront others (start ∷ behind) links nodes at

  onward_whole : (others : List ℕ) (at : Node) (behind : List Node) → Walk net others (at ∷ behind) → NoneTwice (at ∷ behind) → Onward at others behind
  onward_whole _ _ _ (one_link link from to joins) none = (one_link link from to joins, none)
  onward_whole _ _ _ (goes_on link next links from to nodes joins passes rest) none = (goes_on link next links from to nodes joins passes rest, none)

  pub under_way_first : (own : List ℕ) (start : Node) → IsUnderWay own start [] (start ∷ []) start
  under_way_first own start others behind path same = record {
    tail = others;
    behind = behind;
    links_are = refl;
    nodes_are = refl;
    onward = onward_whole others start behind path.0 path.1;
  }

  -- a link more
  front_next : (first : ℕ) (tail : List ℕ) (at : Node) (behind : List Node) (whole : List ℕ) (along : List Node) (links : List ℕ) (nodes : List Node)
      → links ++ first ∷ tail ≡ whole → nodes ++ behind ≡ along → Walk net (first ∷ tail) (at ∷ behind) → NoneTwice (at ∷ behind)
      → IsFront whole along (links ++ first ∷ []) (nodes ++ far_end (slice_get net.links first) at ∷ []) (far_end (slice_get net.links first) at)
  front_next first _ at _ whole along links nodes links_are nodes_are (one_link _ _ to joins) none =
      rw (far_end_to net first at to joins) (record {
        tail = [];
        behind = [];
        links_are = append-nil (links ++ first ∷ []) ∙ links_are;
        nodes_are = append-nil (nodes ++ to ∷ []) ∙ nodes_are;
        onward = refl;
      })
  front_next first _ at _ whole along links nodes links_are nodes_are (goes_on _ next later _ to rest_nodes joins passes rest) none =
      rw (far_end_to net first at to joins) (record {
        tail = next ∷ later;
        behind = rest_nodes;
        links_are = append_assoc links (first ∷ []) (next ∷ later) ∙ links_are;
        nodes_are = append_assoc nodes (to ∷ []) rest_nodes ∙ nodes_are;
        onward = (rest, none.1);
      })

  pub under_way_next : (own : List ℕ) (start : Node) (links new_links : List ℕ) (nodes new_nodes : List Node) (at new_at : Node) (link : ℕ)
      → IsUnderWay own start links nodes at → Contains own link → Touches net link at → (Contains links link → ⊥)
      → new_at ≡ far_end (slice_get net.links link) at → new_links ≡ links ++ link ∷ [] → new_nodes ≡ nodes ++ new_at ∷ [] → IsUnderWay own start new_links new_nodes new_at
  under_way_next own start links new_links nodes new_nodes at new_at link so_far in_own touching fresh at_is links_are nodes_are others behind path same =
      rw (links_are, nodes_are, at_is) (go front.tail front.behind front.links_are front.nodes_are front.onward)
    where
      front : IsFront others (start ∷ behind) links nodes at
      front = so_far others behind path same

      there : (tail : List ℕ) → links ++ tail ≡ others → Contains tail link
      there tail e =
          elim (Contains-either links tail link (subst (λ xs. Contains xs link) (sym e) ((same link).1 in_own))) [
            | inl old ↦ absurd (fresh old)
            | inr new ↦ new
          ]

      go : (tail : List ℕ) (rest : List Node) → links ++ tail ≡ others → nodes ++ rest ≡ start ∷ behind → Onward at tail rest
          → IsFront others (start ∷ behind) (links ++ link ∷ []) (nodes ++ far_end (slice_get net.links link) at ∷ []) (far_end (slice_get net.links link) at)
      go [] rest e f onward = absurd (Contains-nil link (there [] e))
      go (first ∷ tail) rest e f onward =
          let is : first ≡ link = only_first net first tail at rest onward.0 onward.1 link (there (first ∷ tail) e) touching in
          subst (λ l. IsFront others (start ∷ behind) (links ++ l ∷ []) (nodes ++ far_end (slice_get net.links l) at ∷ []) (far_end (slice_get net.links l) at)) is
          (front_next first tail at rest others (start ∷ behind) links nodes e f onward.0 onward.1)

  first_joins : (first : ℕ) (tail : List ℕ) (at : Node) (behind : List Node) → Walk net (first ∷ tail) (at ∷ behind) → Touches net first at
  first_joins first _ at _ (one_link _ _ to joins) = Joins-at_from net first at to joins
  first_joins first _ at _ (goes_on _ next later _ to rest_nodes joins passes rest) = Joins-at_from net first at to joins

  ended : (own : List ℕ) (start : Node) (links : List ℕ) (nodes : List Node) (at : Node) → IsUnderWay own start links nodes at
      → ((others : List ℕ) (behind : List Node) → Path net others (start ∷ behind) → SameElements others own → (first : ℕ) (tail : List ℕ) → links ++ first ∷ tail ≡ others
      → Contains others first → Touches net first at → ⊥) → IsOnlyWay net own start links nodes
  ended own start links nodes at so_far none others behind path same =
      let front = so_far others behind path same in go front.tail front.behind front.links_are front.nodes_are front.onward
    where
      go : (tail : List ℕ) (rest : List Node) → links ++ tail ≡ others → nodes ++ rest ≡ start ∷ behind → Onward at tail rest → (links ≡ others) × (nodes ≡ start ∷ behind)
      go [] rest e f onward = (sym (append-nil links) ∙ e, sym (append-nil nodes) ∙ ap (λ (ns : List Node). nodes ++ ns) (sym onward) ∙ f)
      go (first ∷ tail) rest e f onward =
          absurd (none others behind path same first tail e
          (subst (λ xs. Contains xs first) e (Contains-right links (first ∷ tail) first (Contains-here first tail))) (first_joins first tail at rest onward.0))

  -- no link of the list goes on
  pub stuck : (own : List ℕ) (start : Node) (links : List ℕ) (nodes : List Node) (at : Node) → IsUnderWay own start links nodes at
      → ((link : ℕ) → Contains own link → Touches net link at → Contains links link) → IsOnlyWay net own start links nodes
  stuck own start links nodes at so_far all =
      ended own start links nodes at so_far (λ others behind path same first tail e c touching.
      apart_once links tail first (subst (λ xs. NoneTwice xs) (sym e) (path_once net path.0 path.1)) (all first ((same first).0 c) touching))

  -- as many links as the list has
  pub full_length : (own : List ℕ) (start : Node) (links : List ℕ) (nodes : List Node) (at : Node) → IsUnderWay own start links nodes at
      → length own ≤ length links → IsOnlyWay net own start links nodes
  full_length own start links nodes at so_far most =
      ended own start links nodes at so_far (λ others behind path same first tail e c touching.
      let few : length others ≤ length own = length_within others own (path_once net path.0 path.1) (λ link d. (same link).0 d) in
      omega (arith, few, most, length-append links (first ∷ tail), ap (λ (xs : List ℕ). length xs) e))

-- the test for the next link
pub Decides-is_next : (net : Net) (taken : List (List ℕ)) (at : Node) (link : ℕ)
    → Decides (touches net link at && not (is_noted taken link)) (Touches net link at × (IsNoted taken link → ⊥))
Decides-is_next net taken at link =
    Decides-and (touches net link at) (not (is_noted taken link)) (Decides-touches net link at) (Decides-not (is_noted taken link) (Decides-is_noted taken link))

-- none of the links is next
pub none_next : (net : Net) (own : List ℕ) (taken : List (List ℕ)) (at : Node)
    → ((k : ℕ) → k < length own → (touches net (get_or own k 0) at && not (is_noted taken (get_or own k 0))) ≡ false)
    → (link : ℕ) → Contains own link → Touches net link at → IsNoted taken link
none_next net own taken at fails link c touching = among (is_noted taken link) refl
  where
    failed : (touches net link at && not (is_noted taken link)) ≡ false
    failed =
        let here : get_or own c.0 0 ≡ link = get_or_default own c.0 0 link c.1 ∙ c.2 in
        subst (λ l. (touches net l at && not (is_noted taken l)) ≡ false) here (fails c.0 c.1)

    among : (b : Bool) → is_noted taken link ≡ b → IsNoted taken link
    among true e = yes (Decides-is_noted taken link) e
    among false e = absurd (no (Decides-is_next net taken at link) failed (touching, no (Decides-is_noted taken link) e))

-- no link so far is next
pub none_so_far : (net : Net) (own : List ℕ) (taken : List (List ℕ)) (at : Node) (i : ℕ)
    → ((k : ℕ) → k < i → (touches net (get_or own k 0) at && not (is_noted taken (get_or own k 0))) ≡ false)
    → (touches net (get_or own i 0) at && not (is_noted taken (get_or own i 0))) ≡ false
    → (k : ℕ) → k < i + 1 → (touches net (get_or own k 0) at && not (is_noted taken (get_or own k 0))) ≡ false
none_so_far net own taken at i before here k less =
    elim (cases_eq k i) [
      | inl same ↦ subst (λ j. (touches net (get_or own j 0) at && not (is_noted taken (get_or own j 0))) ≡ false) (sym same) here
      | inr differ ↦ before k (omega arith)
    ]
