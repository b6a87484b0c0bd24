-- Paths over the same links that begin at one node go one way.
use Rattle.std.proofs.Common.{◌≡◌, ℕ, ◌↔◌, List, [], ◌∷◌, refl, ap, sym, subst, ◌∙◌, inl, inr}
use Rattle.std.specs.List.{Contains}
use Rattle.rr_routes.specs.declared.net.Link.{Link}
use Rattle.rr_routes.specs.declared.net.Node.{Node}
use Rattle.rr_routes.specs.declared.net.Node.TheVariants.{Hexside, Centre}
use Rattle.rr_routes.specs.Net.{Net, AreEnds, Joins}
use Rattle.rr_routes.specs.Routes.{Passes, Walk, one_link, goes_on, NoneTwice, Path}
use Rattle.rr_routes.proofs.Elements.{Contains-here, Contains-there, Contains-cases, Contains-single}
use Rattle.rr_routes.proofs.Walks.{LinkAt-same, Joins-at_from, Walk-touched, only_first}

-- a link leads from a node to one other
one_end : (link : Link) (from to other : Node) → AreEnds link from to → AreEnds link from other → to ≡ other
one_end link from to other (inl ends) (inl also) = ends.1 ∙ sym also.1
one_end link from to other (inl ends) (inr also) = ends.1 ∙ sym also.0 ∙ ends.0 ∙ sym also.1
one_end link from to other (inr ends) (inl also) = ends.1 ∙ sym also.0 ∙ ends.0 ∙ sym also.1
one_end link from to other (inr ends) (inr also) = ends.1 ∙ sym also.1

Joins-same : (net : Net) (link : ℕ) (from to other : Node) → Joins net link from to → Joins net link from other → to ≡ other
Joins-same net link from to other joins also =
    one_end joins.0 from to other joins.2 (subst (λ l. AreEnds l from other) (LinkAt-same net link also.0 joins.0 also.1 joins.1) also.2)

-- the next link is another
next_differs : (net : Net) (link : ℕ) (node : Node) (next : ℕ) → Passes net link node next → link ≡ next → ⊥
next_differs net link (Centre centre) next passes = passes
next_differs net link (Hexside side) next passes = passes.0

-- the first link of a walk
first_joins : (net : Net) (first : ℕ) (links : List ℕ) (from : Node) (nodes : List Node) → Walk net (first ∷ links) (from ∷ nodes) → (to : Node) × Joins net first from to
first_joins net first _ from _ (one_link _ _ to joins) = (to, joins)
first_joins net first _ from _ (goes_on _ _ _ _ to _ joins _ _) = (to, joins)

-- a path doesn't come back to its first link
first_once : (net : Net) (first next : ℕ) (links : List ℕ) (from to : Node) (nodes : List Node) → Joins net first from to → Walk net (next ∷ links) (to ∷ nodes)
    → NoneTwice (from ∷ to ∷ nodes) → Contains (next ∷ links) first → ⊥
first_once net first next links from to nodes joins rest none c =
    none.0 (Walk-touched net rest first from c (Joins-at_from net first from to joins))

-- the links behind the first are among those behind the other's first
rest_among : (net : Net) (first second next : ℕ) (links others : List ℕ) (from to : Node) (nodes : List Node) → Joins net first from to
    → Walk net (next ∷ links) (to ∷ nodes) → NoneTwice (from ∷ to ∷ nodes) → first ≡ second
    → ((link : ℕ) → Contains (first ∷ next ∷ links) link → Contains (second ∷ others) link) → (link : ℕ) → Contains (next ∷ links) link → Contains others link
rest_among net first second next links others from to nodes joins rest none same among link c =
    elim (Contains-cases second others link (among link (Contains-there first (next ∷ links) link c))) [
      | inl is ↦ absurd (first_once net first next links from to nodes joins rest none (subst (λ l. Contains (next ∷ links) l) (sym is ∙ sym same) c))
      | inr later ↦ later
    ]

same_way : (net : Net) (first : ℕ) (links : List ℕ) (node : Node) (nodes : List Node) → Walk net (first ∷ links) (node ∷ nodes) → NoneTwice (node ∷ nodes)
    → (second : ℕ) (others : List ℕ) (behind : List Node) → Walk net (second ∷ others) (node ∷ behind) → NoneTwice (node ∷ behind)
    → ((link : ℕ) → Contains (first ∷ links) link → Contains (second ∷ others) link)
    → ((link : ℕ) → Contains (second ∷ others) link → Contains (first ∷ links) link) → ((first ∷ links) ≡ (second ∷ others)) × (nodes ≡ behind)
same_way net first _ node _ (one_link _ _ to joins) none second _ _ (one_link _ _ other also) once there here =
    let same : first ≡ second = sym (Contains-single second first (there first (Contains-here first []))) in
    let end : to ≡ other = Joins-same net second node to other (subst (λ l. Joins net l node to) same joins) also in
    (ap (λ l. l ∷ []) same, ap (λ n. n ∷ []) end)
same_way net first _ node _ (one_link _ _ to joins) none second _ _ (goes_on _ next others _ other behind also passes rest) once there here =
    absurd (next_differs net second other next passes
    (sym (Contains-single first second (here second (Contains-here second (next ∷ others))))
    ∙ Contains-single first next (here next (Contains-there second (next ∷ others) next (Contains-here next others)))))
same_way net first _ node _ (goes_on _ next links _ to nodes joins passes rest) none second _ _ (one_link _ _ other also) once there here =
    absurd (next_differs net first to next passes
    (sym (Contains-single second first (there first (Contains-here first (next ∷ links))))
    ∙ Contains-single second next (there next (Contains-there first (next ∷ links) next (Contains-here next links)))))
same_way net first _ node _ (goes_on _ next links _ to nodes joins passes rest) none second _ _ (goes_on _ later others _ other behind also over onward) once there here =
    let same : first ≡ second =
    only_first net first (next ∷ links) node (to ∷ nodes) (goes_on first next links node to nodes joins passes rest) none second
    (here second (Contains-here second (later ∷ others))) (Joins-at_from net second node other also) in
    let end : to ≡ other = Joins-same net second node to other (subst (λ l. Joins net l node to) same joins) also in
    let moved : Walk net (later ∷ others) (to ∷ behind) × NoneTwice (to ∷ behind) =
    subst (λ n. Walk net (later ∷ others) (n ∷ behind) × NoneTwice (n ∷ behind)) (sym end) (onward, once.1) in
    let tails = same_way net next links to nodes rest none.1 later others behind moved.0 moved.1
    (rest_among net first second next links (later ∷ others) node to nodes joins rest none same there)
    (rest_among net second first later others (next ∷ links) node other behind also onward once (sym same) here) in
    (ap (λ l. l ∷ next ∷ links) same ∙ ap (λ ls. second ∷ ls) tails.0, ap (λ n. n ∷ nodes) end ∙ ap (λ ns. other ∷ ns) tails.1)

-- a walk has a link
empty_walk : (net : Net) (links : List ℕ) (nodes : List Node) → Walk net links nodes → links ≡ [] → ⊥
empty_walk net _ _ (one_link link from to joins) none = cc
empty_walk net _ _ (goes_on link next links from to nodes joins passes rest) none = cc

-- paths over the same links that begin at one node are one
pub one_path : (net : Net) (node : Node) (links others : List ℕ) (nodes behind : List Node) → Path net links (node ∷ nodes) → Path net others (node ∷ behind)
    → ((link : ℕ) → Contains links link ↔ Contains others link) → (links ≡ others) × (nodes ≡ behind)
one_path net node [] others nodes behind path also same = absurd (empty_walk net [] (node ∷ nodes) path.0 refl)
one_path net node (first ∷ links) [] nodes behind path also same = absurd (empty_walk net [] (node ∷ behind) also.0 refl)
one_path net node (first ∷ links) (second ∷ others) nodes behind path also same =
    same_way net first links node nodes path.0 path.1 second others behind also.0 also.1 (λ link. (same link).0) (λ link. (same link).1)
