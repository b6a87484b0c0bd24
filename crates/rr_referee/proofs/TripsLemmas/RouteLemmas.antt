-- There is a route just where a way leads from a token.
use Rattle.std.proofs.Common.{◌≡◌, ℕ, suc, ◌<◌, ◌≤◌, ◌⊎◌, ◌↔◌, Bool, List, [], ◌∷◌, length, sym, ◌∙◌, ap, subst, inl, inr, arith, zero-add}
use Rattle.std.specs.Bool.{Decides}
use Rattle.std.specs.List.{Contains, range_with_len}
use Rattle.std.proofs.lemmas.List.FromFn.{length-range_with_len, get_or-range_with_len}
use Rattle.rr_routes.specs.declared.net.Node.{Node}
use Rattle.rr_routes.specs.declared.net.Node.TheVariants.{Hexside, Centre}
use Rattle.rr_routes.specs.declared.net.CentreLimit.{CentreLimit}
use Rattle.rr_routes.specs.declared.net.CentreLimit.TheVariants.{AtMost, Unlimited}
use Rattle.rr_routes.specs.Net.{Net, HasToken, IsCentre, IsWithin}
use Rattle.rr_routes.specs.Routes.{Walk, one_link, goes_on, NoneTwice, last, centres, EndsAreCentres}
use Rattle.rr_routes.proofs.Elements.{Contains-here, Contains-there, Contains-cases, Contains-single}
use Rattle.rr_routes.proofs.Walks.{Walk-in_net}
use Rattle.std.proofs.lemmas.Bool.Decides.{Decides-like}
use Rattle.rr_referee.specs.Trips.Having.{HasRoute}
use Rattle.rr_referee.specs.Trips.Ways.{Leaves, SomeLeaves}
use Rattle.rr_referee.proofs.TripsLemmas.WayLemmas.{WayOf, way_of, leads}
use Rattle.rr_referee.proofs.TripsLemmas.Backwards.{first_of, last_of, first_of-back, last_of-back, last_is, Contains-back, NoneTwice-back, walk_back}

-- the places of all links
abbrev pub all_links : Net → List ℕ
all_links net = range_with_len 0 (length net.links)

Contains-range : (n k : ℕ) → k < n → Contains (range_with_len 0 n) k
Contains-range n k less = (k, omega (arith, length-range_with_len 0 n), get_or-range_with_len 0 n k k less ∙ zero-add k)

-- nodes of which the last is a centre
some_centre : (node : Node) (nodes : List Node) → IsCentre (last node nodes) → 0 < length (centres (node ∷ nodes))
some_centre (Hexside side) [] ends = absurd ends
some_centre (Centre centre) [] ends = omega arith
some_centre (Hexside side) (next ∷ nodes) ends = some_centre next nodes ends
some_centre (Centre centre) (next ∷ nodes) ends = omega arith

two_centres : (net : Net) {links : List ℕ} {nodes : List Node} → Walk net links nodes → EndsAreCentres nodes → 2 ≤ length (centres nodes)
two_centres net (one_link link (Hexside side) to joins) ends = absurd ends.0
two_centres net (one_link link (Centre centre) to joins) ends = let h = some_centre to [] ends.1 in omega (arith, h)
two_centres net (goes_on link next links (Hexside side) to nodes joins passes rest) ends = absurd ends.0
two_centres net (goes_on link next links (Centre centre) to nodes joins passes rest) ends = let h = some_centre to nodes ends.1 in omega (arith, h)

fewer_within : (limit : CentreLimit) (few many : ℕ) → few ≤ many → IsWithin limit many → IsWithin limit few
fewer_within (AtMost most) few many less within = omega (arith, less, within)
fewer_within Unlimited few many less within = tt

-- a route counts two centres at least
pub route_counts_two : (net : Net) (limit : CentreLimit) → HasRoute net limit → IsWithin limit 2
route_counts_two net limit has =
    fewer_within limit 2 (length (centres has.0.nodes)) (two_centres net has.1.path.0 has.1.ends) has.1.counted

module _ (net : Net) (own : List ℕ) where
  -- from a node of a path that ends at a centre a way leads on, or it is the last
  leads_from : {links : List ℕ} (first : Node) (nodes : List Node) → Walk net links (first ∷ nodes) → NoneTwice (first ∷ nodes) → IsCentre (last first nodes)
      → ((link : ℕ) → Contains links link → Contains own link) → (node : Node) → Contains (first ∷ nodes) node → (node ≡ last first nodes) ⊎ Leaves net own node
  leads_from first _ (one_link link _ to joins) none ends all node c =
      elim (Contains-cases first (to ∷ []) node c) [
        | inl is ↦
            inr (subst (λ n. Leaves net own n) is (
              link,
              all link (Contains-here link []),
              leads net own link [] first (to ∷ []) (one_link link first to joins) none ends (λ l d. all l (Contains-there link [] l d)),
            ))
        | inr d ↦ inl (sym (Contains-single to node d))
      ]
  leads_from first _ (goes_on link next links _ to nodes joins passes rest) none ends all node c =
      elim (Contains-cases first (to ∷ nodes) node c) [
        | inl is ↦
            inr (subst (λ n. Leaves net own n) is (
              link,
              all link (Contains-here link (next ∷ links)),
              leads net own link (next ∷ links) first (to ∷ nodes) (goes_on link next links first to nodes joins passes rest) none ends
                  (λ l d. all l (Contains-there link (next ∷ links) l d)),
            ))
        | inr d ↦ leads_from to nodes rest none.1 ends (λ l e. all l (Contains-there link (next ∷ links) l e)) node d
      ]

  -- from the first node of such a path a way leads on
  leads_first : {links : List ℕ} {nodes : List Node} → Walk net links nodes → NoneTwice nodes → IsCentre (last_of (Hexside 0) nodes)
      → ((link : ℕ) → Contains links link → Contains own link) → Leaves net own (first_of (Hexside 0) nodes)
  leads_first (one_link link from to joins) none ends all = (
    link,
    all link (Contains-here link []),
    leads net own link [] from (to ∷ []) (one_link link from to joins) none ends (λ l d. all l (Contains-there link [] l d)),
  )
  leads_first (goes_on link next links from to nodes joins passes rest) none ends all = (
    link,
    all link (Contains-here link (next ∷ links)),
    leads net own link (next ∷ links) from (to ∷ nodes) (goes_on link next links from to nodes joins passes rest) none (subst IsCentre (last_is from (to ∷ nodes)) ends)
        (λ l d. all l (Contains-there link (next ∷ links) l d)),
  )

  -- from each centre of a path between centres a way leads on, in one direction or the other
  leads_either : {links : List ℕ} (nodes : List Node) → Walk net links nodes → NoneTwice nodes → EndsAreCentres nodes
      → ((link : ℕ) → Contains links link → Contains own link) → (node : Node) → Contains nodes node → Leaves net own node
  leads_either [] walk none ends all node c = absurd ends
  leads_either {links} (first ∷ nodes) walk none ends all node c =
      elim (leads_from first nodes walk none ends.1 all node c) [
        | inl is ↦
            subst (λ n. Leaves net own n) (first_of-back (Hexside 0) (first ∷ nodes) ∙ last_is first nodes ∙ sym is)
            (leads_first (walk_back net walk) (NoneTwice-back (first ∷ nodes) none) (subst IsCentre (sym (last_of-back (Hexside 0) (first ∷ nodes))) ends.0)
            (λ link d. all link (Contains-back links link d)))
        | inr leaves ↦ leaves
      ]

-- where there is a route, a way leads from a token
pub route_leaves : (net : Net) (limit : CentreLimit) → HasRoute net limit → SomeLeaves net (all_links net) net.tokens
route_leaves net limit has = at_token has.1.token.0 has.1.token.1 has.1.token.2
  where
    at_token : (node : Node) → Contains has.0.nodes node → HasToken net node → SomeLeaves net (all_links net) net.tokens
    at_token (Hexside side) c token = absurd token
    at_token (Centre centre) c token = (
      centre,
      token,
      leads_either net (all_links net) has.0.nodes has.1.path.0 has.1.path.1 has.1.ends
          (λ link d. Contains-range (length net.links) link (Walk-in_net net has.1.path.0 link d)) (Centre centre) c,
    )

-- a way that leads from a token is a route of two centres
pub leaving_routes : (net : Net) (limit : CentreLimit) (own : List ℕ) → IsWithin limit 2 → SomeLeaves net own net.tokens → HasRoute net limit
leaving_routes net limit own two leaves =
    let token = leaves.0 in
    let w : WayOf net own leaves.2.0 (Centre token) = way_of net own leaves.2.0 (Centre token) leaves.2.2 in (
      record { links = leaves.2.0 ∷ w.links; nodes = Centre token ∷ w.to ∷ w.behind },
      record {
        path = (w.walk, w.none_twice);
        ends = (tt, w.ends);
        no_terminal = w.clear;
        token = (Centre token, Contains-here (Centre token) (w.to ∷ w.behind), leaves.1);
        counted = subst (λ (n : ℕ). IsWithin limit n) (ap suc (sym w.counts_one)) two;
      },
    )

-- so the one decides the other
pub Decides-has_route : (net : Net) (limit : CentreLimit) (found : Bool) → IsWithin limit 2 → Decides found (SomeLeaves net (all_links net) net.tokens)
    → Decides found (HasRoute net limit)
Decides-has_route net limit found two decides =
    Decides-like found (λ leaves. leaving_routes net limit (all_links net) two leaves) (λ has. route_leaves net limit has) decides

-- whatever a train counts, a route of two centres is enough
pub two_are_enough : (net : Net) (limit : CentreLimit) → IsWithin limit 2 → HasRoute net limit ↔ HasRoute net (AtMost 2)
two_are_enough net limit two =
    let few : IsWithin (AtMost 2) 2 = omega arith in (
      λ has. leaving_routes net (AtMost 2) (all_links net) few (route_leaves net limit has),
      λ has. leaving_routes net limit (all_links net) two (route_leaves net (AtMost 2) has),
    )
