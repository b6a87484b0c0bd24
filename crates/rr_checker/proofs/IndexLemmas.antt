-- Links by the keys of the nodes that they touch.
use Rattle.std.proofs.Common.{◌≡◌, ◌↔◌, ℕ, ◌+◌, ◌<◌, ◌≤◌, ◌⊎◌, Option, None, Some, List, [], ◌∷◌, ◌++◌, length, get_or, take, refl, sym, ◌∙◌, ap, subst, inl, inr}
use Rattle.std.specs.Bool.{Decides}
use Rattle.std.specs.List.{Contains, slice_get}
use Rattle.std.proofs.lemmas.List.{take_all, take_more}
use Rattle.std.proofs.lemmas.List.Elements.{Contains-push, Contains-push_cases, Contains-append_left}
use Rattle.rr_routes.specs.declared.net.Link.{Link}
use Rattle.rr_routes.specs.declared.net.Node.{Node}
use Rattle.rr_routes.specs.declared.net.Node.TheVariants.{Hexside}
use Rattle.rr_routes.specs.Net.{Net, LinkAt, Touches}
use Rattle.rr_routes.specs.Reachability.Index.{IsIndexOf, noted, noted_at as noted_at_key, nothing_noted}
use Rattle.rr_routes.proofs.Elements.{Contains-nil}
use Rattle.rr_routes.proofs.ReachabilityLemmas.IndexLemmas.{AlsoAt, Nowhere, index_noted, index_nothing, index_same}
use Rattle.rr_routes.proofs.Walks.{LinkAt-same}
use Rattle.rr_checker.specs.Index.{IsNoted, IsOneOf, TouchesAt, is_noted, node_key, noted_at, noted_at_ends}
use Rattle.rr_checker.proofs.StepLemmas.{Decides-among}

-- no number is noted
pub numbers_first : (count : ℕ) (index : List (List ℕ)) → index ≡ nothing_noted count → IsIndexOf (IsOneOf []) index
numbers_first count index e =
    index_same Nowhere (IsOneOf []) index (λ key n none. absurd none) (λ key n d. absurd (Contains-nil n d.0)) (index_nothing count index e)

-- one number more, at itself
module _ (numbers : List ℕ) (index : List (List ℕ)) (x : ℕ) where
  is_one : (key n : ℕ) → AlsoAt (IsOneOf numbers) x x key n → IsOneOf (numbers ++ x ∷ []) key n
  is_one key n (inl d) = (Contains-append_left numbers (x ∷ []) n d.0, d.1)
  is_one key n (inr e) = (subst (λ m. Contains (numbers ++ x ∷ []) m) e.1 (Contains-push numbers x), sym e.0 ∙ e.1)

  is_also : (key n : ℕ) → IsOneOf (numbers ++ x ∷ []) key n → AlsoAt (IsOneOf numbers) x x key n
  is_also key n d = elim (Contains-push_cases numbers x n d.0) [ inl old ↦ inl (old, d.1) | inr is ↦ inr (is ∙ sym d.1, is) ]

  pub numbers_next : IsIndexOf (IsOneOf numbers) index → IsIndexOf (IsOneOf (numbers ++ x ∷ [])) (noted index x x)
  numbers_next ix =
      index_same (AlsoAt (IsOneOf numbers) x x) (IsOneOf (numbers ++ x ∷ [])) (noted index x x) is_one is_also (index_noted (IsOneOf numbers) index x x ix)

-- just these numbers are noted
pub noted_numbers : (numbers : List ℕ) (index : List (List ℕ)) → IsIndexOf (IsOneOf numbers) index → (number : ℕ) → IsNoted index number ↔ Contains numbers number
noted_numbers numbers index ix number = (λ there. (ix.sound number number there).1.0, λ c. ix.complete number number (c, refl))

pub Decides-is_noted : (index : List (List ℕ)) (number : ℕ) → Decides (is_noted index number) (IsNoted index number)
Decides-is_noted index number = Decides-among (noted_at_key index number) number

module _ (net : Net) where
  -- no link is noted
  pub links_first : (count : ℕ) (index : List (List ℕ)) → index ≡ nothing_noted count → IsIndexOf (TouchesAt net []) index
  links_first count index e =
      index_same Nowhere (TouchesAt net []) index (λ key place none. absurd none) (λ key place d. absurd (Contains-nil place d.0))
      (index_nothing count index e)

  -- one link more, at both of its ends
  both_ends : (done : List ℕ) (index : List (List ℕ)) (link : ℕ) (o : Option Link) → slice_get net.links link ≡ o → IsIndexOf (TouchesAt net done) index
      → IsIndexOf (TouchesAt net (done ++ link ∷ [])) (noted_at_ends index link o)
  both_ends done index link None none ix =
      index_same (TouchesAt net done) (TouchesAt net (done ++ link ∷ [])) index (λ key place d. (Contains-append_left done (link ∷ []) place d.0, d.1)) back ix
    where
      back : (key place : ℕ) → TouchesAt net (done ++ link ∷ []) key place → TouchesAt net done key place
      back key place d = elim (Contains-push_cases done link place d.0) [
        | inl old ↦ (old, d.1)
        | inr is ↦ let at = d.1.2 in let e : None ≡ Some at.0 = sym none ∙ subst (λ (l : ℕ). LinkAt net l at.0) (sym is) at.1 in cc
      ]
  both_ends done index link (Some at) there ix =
      index_same (AlsoAt (AlsoAt (TouchesAt net done) at.side link) (node_key at.other) link) (TouchesAt net (done ++ link ∷ []))
      (noted (noted index at.side link) (node_key at.other) link) to back
      (index_noted (AlsoAt (TouchesAt net done) at.side link) (noted index at.side link) (node_key at.other) link
      (index_noted (TouchesAt net done) index at.side link ix))
    where
      new : (node : Node) (key place : ℕ) → (node ≡ Hexside at.side) ⊎ (node ≡ at.other) → node_key node ≡ key → link ≡ place → TouchesAt net (done ++ link ∷ []) key place
      new node key place which has is =
          subst (λ (l : ℕ). TouchesAt net (done ++ link ∷ []) key l) is (Contains-push done link, (node, has, (at, there, which)))

      to : (key place : ℕ) → AlsoAt (AlsoAt (TouchesAt net done) at.side link) (node_key at.other) link key place → TouchesAt net (done ++ link ∷ []) key place
      to key place (inl (inl d)) = (Contains-append_left done (link ∷ []) place d.0, d.1)
      to key place (inl (inr is)) = new (Hexside at.side) key place (inl refl) is.0 is.1
      to key place (inr is) = new at.other key place (inr refl) is.0 is.1

      back : (key place : ℕ) → TouchesAt net (done ++ link ∷ []) key place → AlsoAt (AlsoAt (TouchesAt net done) at.side link) (node_key at.other) link key place
      back key place d = elim (Contains-push_cases done link place d.0) [
        | inl old ↦ inl (inl (old, d.1))
        | inr is ↦
            let node = d.1.0 in
            let has : node_key node ≡ key = d.1.1 in
            let touching = d.1.2 in
            let same : touching.0 ≡ at = LinkAt-same net place touching.0 at touching.1 (subst (λ (l : ℕ). LinkAt net l at) is there) in
            elim touching.2 [
              | inl side ↦ inl (inr (sym (ap node_key (side ∙ ap (λ (l : Link). Hexside l.side) same)) ∙ has, is))
              | inr other ↦ inr (sym (ap node_key (other ∙ ap (λ (l : Link). l.other) same)) ∙ has, is)
            ]
      ]

  pub links_next : (links : List ℕ) (i : ℕ) (index new : List (List ℕ)) → i < length links → IsIndexOf (TouchesAt net (take i links)) index
      → new ≡ noted_at_ends index (get_or links i 0) (slice_get net.links (get_or links i 0)) → IsIndexOf (TouchesAt net (take (i + 1) links)) new
  links_next links i index new inside ix is =
      rw (take_more links i 0 inside, is) (both_ends (take i links) index (get_or links i 0) (slice_get net.links (get_or links i 0)) refl ix)

  pub links_done : (links : List ℕ) (i : ℕ) (index : List (List ℕ)) → length links ≤ i → IsIndexOf (TouchesAt net (take i links)) index → IsIndexOf (TouchesAt net links) index
  links_done links i index all ix = rw (take_all i links all) at ix

  -- what is noted at a node is one of the links, and those that touch it are noted there
  pub one_noted : (links : List ℕ) (index : List (List ℕ)) → IsIndexOf (TouchesAt net links) index → (node : Node) (link : ℕ) → Contains (noted_at index node) link → Contains links link
  one_noted links index ix node link c = let found = ix.sound (node_key node) link c in found.1.0

  pub noted_there : (links : List ℕ) (index : List (List ℕ)) → IsIndexOf (TouchesAt net links) index → (node : Node) (link : ℕ) → Contains links link → Touches net link node
      → Contains (noted_at index node) link
  noted_there links index ix node link c touching = ix.complete (node_key node) link (c, (node, refl, touching))
