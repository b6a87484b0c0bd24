-- Lemmas on walks and paths.
use Rattle.std.proofs.Common.{◌≡◌, ℕ, ◌<◌, List, [], ◌∷◌, length, ap, sym, subst, ◌∙◌, ◌⊎◌, inl, inr}
use Rattle.std.specs.List.{Contains}
use Rattle.std.proofs.lemmas.Option.{slice_get_within}
use Rattle.rr_routes.specs.declared.net.Node.{Node}
use Rattle.rr_routes.specs.declared.net.Node.TheVariants.{Hexside, Centre}
use Rattle.rr_routes.specs.declared.net.Link.{Link}
use Rattle.rr_routes.specs.Net.{Net, LinkAt, AreEnds, Joins, Touches}
use Rattle.rr_routes.specs.Routes.{Passes, Walk, one_link, goes_on, NoneTwice, centres}
use Rattle.rr_routes.proofs.Elements.{Contains-here, Contains-there, Contains-cases, Contains-nil, Contains-single}

-- one link stands at a place
pub LinkAt-same : (net : Net) (place : ℕ) (link other : Link) → LinkAt net place link → LinkAt net place other → link ≡ other
LinkAt-same net place link other one two = cc

pub Joins-back : (net : Net) (place : ℕ) (from to : Node) → Joins net place from to → Joins net place to from
Joins-back net place from to joins =
    (joins.0, joins.1, elim joins.2 [ inl ends ↦ inr (ends.1, ends.0) | inr ends ↦ inl (ends.1, ends.0) ])

pub Passes-back : (net : Net) (link : ℕ) (node : Node) (next : ℕ) → Passes net link node next → Passes net next node link
Passes-back net link (Centre centre) next passes = λ same. passes (sym same)
Passes-back net link (Hexside side) next passes =
    (λ same. passes.0 (sym same), λ first second one two same. passes.1 second first two one (sym same))

-- a link that joins two nodes touches no other
touched_ends : (link : Link) (from to node : Node) → AreEnds link from to → (node ≡ Hexside link.side) ⊎ (node ≡ link.other) → (node ≡ from) ⊎ (node ≡ to)
touched_ends link from to node (inl ends) (inl is) = inl (is ∙ sym ends.0)
touched_ends link from to node (inl ends) (inr is) = inr (is ∙ sym ends.1)
touched_ends link from to node (inr ends) (inl is) = inr (is ∙ sym ends.1)
touched_ends link from to node (inr ends) (inr is) = inl (is ∙ sym ends.0)

pub Touches-ends : (net : Net) (place : ℕ) (from to node : Node) → Joins net place from to → Touches net place node → (node ≡ from) ⊎ (node ≡ to)
Touches-ends net place from to node joins touches =
    touched_ends joins.0 from to node joins.2
    (subst (λ link. (node ≡ Hexside link.side) ⊎ (node ≡ link.other)) (LinkAt-same net place touches.0 joins.0 touches.1 joins.1) touches.2)

-- a link touches the nodes that it joins
pub Joins-at_from : (net : Net) (link : ℕ) (from to : Node) → Joins net link from to → Touches net link from
Joins-at_from net link from to joins = (joins.0, joins.1, elim joins.2 [ inl ends ↦ inl ends.0 | inr ends ↦ inr ends.0 ])

pub Joins-at_to : (net : Net) (link : ℕ) (from to : Node) → Joins net link from to → Touches net link to
Joins-at_to net link from to joins = (joins.0, joins.1, elim joins.2 [ inl ends ↦ inr ends.1 | inr ends ↦ inl ends.1 ])

-- the links of a walk are links of the net
pub Walk-Joins : (net : Net) {links : List ℕ} {nodes : List Node} → Walk net links nodes → (link : ℕ) → Contains links link
    → (from to : Node) × Joins net link from to
Walk-Joins net (one_link first from to joins) link c =
    (from, to, subst (λ l. Joins net l from to) (Contains-single first link c) joins)
Walk-Joins net (goes_on first next links from to nodes joins passes rest) link c =
    elim (Contains-cases first (next ∷ links) link c) [
      | inl is ↦ (from, to, subst (λ l. Joins net l from to) is joins)
      | inr later ↦ Walk-Joins net rest link later
    ]

pub Walk-in_net : (net : Net) {links : List ℕ} {nodes : List Node} → Walk net links nodes → (link : ℕ) → Contains links link → link < length net.links
Walk-in_net net walk link c =
    let joined = Walk-Joins net walk link c in slice_get_within net.links link joined.2.0 joined.2.1

-- the nodes that the links of a walk touch are its nodes
pub Walk-touched : (net : Net) {links : List ℕ} {nodes : List Node} → Walk net links nodes → (link : ℕ) (node : Node) → Contains links link → Touches net link node
    → Contains nodes node
Walk-touched net (one_link first from to joins) link node c touches =
    elim (Touches-ends net first from to node joins (subst (λ l. Touches net l node) (sym (Contains-single first link c)) touches)) [
      | inl is ↦ subst (λ n. Contains (from ∷ to ∷ []) n) (sym is) (Contains-here from (to ∷ []))
      | inr is ↦ subst (λ n. Contains (from ∷ to ∷ []) n) (sym is) (Contains-there from (to ∷ []) to (Contains-here to []))
    ]
Walk-touched net (goes_on first next links from to nodes joins passes rest) link node c touches =
    elim (Contains-cases first (next ∷ links) link c) [
      | inl same ↦ elim (Touches-ends net first from to node joins (subst (λ l. Touches net l node) (sym same) touches)) [
        | inl is ↦ subst (λ n. Contains (from ∷ to ∷ nodes) n) (sym is) (Contains-here from (to ∷ nodes))
        | inr is ↦ subst (λ n. Contains (from ∷ to ∷ nodes) n) (sym is) (Contains-there from (to ∷ nodes) to (Contains-here to nodes))
      ]
      | inr later ↦ Contains-there from (to ∷ nodes) node (Walk-touched net rest link node later touches)
    ]

-- of the links of a path only the first touches the node where it begins
pub only_first : (net : Net) (first : ℕ) (links : List ℕ) (node : Node) (nodes : List Node) → Walk net (first ∷ links) (node ∷ nodes) → NoneTwice (node ∷ nodes)
    → (link : ℕ) → Contains (first ∷ links) link → Touches net link node → first ≡ link
only_first net first _ node _ (one_link _ _ to joins) none link c touches = Contains-single first link c
only_first net first _ node _ (goes_on _ next links _ to nodes joins passes rest) none link c touches =
    elim (Contains-cases first (next ∷ links) link c) [
      | inl is ↦ is
      | inr later ↦ absurd (none.0 (Walk-touched net rest link node later touches))
    ]

-- two links behind the first that meet it at a node are one
pair_behind : (net : Net) (first next : ℕ) (links : List ℕ) (from to : Node) (nodes : List Node) → Joins net first from to
    → Walk net (next ∷ links) (to ∷ nodes) → NoneTwice (from ∷ to ∷ nodes) → (node : Node) → Touches net first node
    → (one two : ℕ) → Contains (next ∷ links) one → Contains (next ∷ links) two → Touches net one node → Touches net two node → one ≡ two
pair_behind net first next links from to nodes joins rest none node touches one two in_one in_two at_one at_two =
    elim (Touches-ends net first from to node joins touches) [
      | inl is ↦ absurd (none.0 (subst (λ n. Contains (to ∷ nodes) n) is (Walk-touched net rest one node in_one at_one)))
      | inr is ↦
          sym (only_first net next links to nodes rest none.1 one in_one (subst (λ n. Touches net one n) is at_one))
          ∙ only_first net next links to nodes rest none.1 two in_two (subst (λ n. Touches net two n) is at_two)
    ]

-- a path has at most two links at a node
pub two_at_most : (net : Net) {links : List ℕ} {nodes : List Node} → Walk net links nodes → NoneTwice nodes → (node : Node) (one two three : ℕ)
    → Contains links one → Contains links two → Contains links three → Touches net one node → Touches net two node → Touches net three node
    → (one ≡ two) ⊎ ((one ≡ three) ⊎ (two ≡ three))
two_at_most net (one_link first from to joins) none node one two three in_one in_two in_three at_one at_two at_three =
    inl (sym (Contains-single first one in_one) ∙ Contains-single first two in_two)
two_at_most net (goes_on first next links from to nodes joins passes rest) none node one two three in_one in_two in_three at_one at_two at_three =
    elim (Contains-cases first (next ∷ links) one in_one) [
      | inl is_one ↦ elim (Contains-cases first (next ∷ links) two in_two) [
        | inl is_two ↦ inl (sym is_one ∙ is_two)
        | inr late_two ↦ elim (Contains-cases first (next ∷ links) three in_three) [
          | inl is_three ↦ inr (inl (sym is_one ∙ is_three))
          | inr late_three ↦ inr (inr (behind (touching one is_one at_one) two three late_two late_three at_two at_three))
        ]
      ]
      | inr late_one ↦ elim (Contains-cases first (next ∷ links) two in_two) [
        | inl is_two ↦ elim (Contains-cases first (next ∷ links) three in_three) [
          | inl is_three ↦ inr (inr (sym is_two ∙ is_three))
          | inr late_three ↦ inr (inl (behind (touching two is_two at_two) one three late_one late_three at_one at_three))
        ]
        | inr late_two ↦ elim (Contains-cases first (next ∷ links) three in_three) [
          | inl is_three ↦ inl (behind (touching three is_three at_three) one two late_one late_two at_one at_two)
          | inr late_three ↦ two_at_most net rest none.1 node one two three late_one late_two late_three at_one at_two at_three
        ]
      ]
    ]
  where
    touching : (link : ℕ) → first ≡ link → Touches net link node → Touches net first node
    touching link is touches = subst (λ l. Touches net l node) (sym is) touches

    behind : Touches net first node → (i j : ℕ) → Contains (next ∷ links) i → Contains (next ∷ links) j → Touches net i node → Touches net j node → i ≡ j
    behind touches = pair_behind net first next links from to nodes joins rest none node touches

-- the centres among the nodes
pub centres-Contains : (nodes : List Node) (centre : ℕ) → Contains (centres nodes) centre → Contains nodes (Centre centre)
centres-Contains [] centre c = absurd (Contains-nil centre c)
centres-Contains (Hexside side ∷ nodes) centre c = Contains-there (Hexside side) nodes (Centre centre) (centres-Contains nodes centre c)
centres-Contains (Centre first ∷ nodes) centre c =
    elim (Contains-cases first (centres nodes) centre c) [
      | inl is ↦ subst (λ n. Contains (Centre first ∷ nodes) n) (ap Centre is) (Contains-here (Centre first) nodes)
      | inr later ↦ Contains-there (Centre first) nodes (Centre centre) (centres-Contains nodes centre later)
    ]

pub Contains-centres : (nodes : List Node) (centre : ℕ) → Contains nodes (Centre centre) → Contains (centres nodes) centre
Contains-centres [] centre c = absurd (Contains-nil (Centre centre) c)
Contains-centres (Hexside side ∷ nodes) centre c =
    elim (Contains-cases (Hexside side) nodes (Centre centre) c) [
      | inl is ↦ cc
      | inr later ↦ Contains-centres nodes centre later
    ]
Contains-centres (Centre first ∷ nodes) centre c =
    elim (Contains-cases (Centre first) nodes (Centre centre) c) [
      | inl is ↦ let same : first ≡ centre = cc in subst (λ n. Contains (first ∷ centres nodes) n) same (Contains-here first (centres nodes))
      | inr later ↦ Contains-there first (centres nodes) centre (Contains-centres nodes centre later)
    ]

pub NoneTwice-centres : (nodes : List Node) → NoneTwice nodes → NoneTwice (centres nodes)
NoneTwice-centres [] none = tt
NoneTwice-centres (Hexside side ∷ nodes) none = NoneTwice-centres nodes none.1
NoneTwice-centres (Centre first ∷ nodes) none =
    (λ c. none.0 (centres-Contains nodes first c), NoneTwice-centres nodes none.1)
