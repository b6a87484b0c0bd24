-- Nodes that stand once, by an index of their places.
use Rattle.std.proofs.Common.{◌≡◌, ℕ, ◌+◌, ◌<◌, true, false, Option, None, Some, List, length, get_or, take, refl, sym, ◌∙◌, ap, arith}
use Rattle.std.specs.Bool.{Decides}
use Rattle.std.specs.List.{Contains, list_any, slice_get}
use Rattle.std.proofs.lemmas.Bool.Decides.{Decides-like}
use Rattle.std.proofs.lemmas.List.{get_or-take, get_or_default, length-take, take_more}
use Rattle.std.proofs.lemmas.Option.{get_or_from_slice_get, slice_get_read}
use Rattle.rr_routes.specs.declared.net.Node.{Node}
use Rattle.rr_routes.specs.declared.net.Node.TheVariants.{Hexside}
use Rattle.rr_routes.specs.Reachability.Index.{IsIndexOf, StandsAt}
use Rattle.rr_routes.specs.Routes.{NoneTwice}
use Rattle.rr_checker.specs.Index.{node_key, noted_at}
use Rattle.rr_checker.specs.Steps.{same_node}
use Rattle.rr_checker.specs.Trips.{node_at, some_node, stands_at}
use Rattle.rr_checker.proofs.RankLemmas.{NoneTwice-push}
use Rattle.rr_checker.proofs.StepLemmas.{yes, no, Decides-list_any, Decides-never, Decides-same_node}
use Rattle.rr_checker.proofs.TripLemmas.{twice_before}

Decides-some_node : (node : Node) (o : Option Node) → Decides (some_node o (λ other. same_node other node)) (o ≡ Some node)
Decides-some_node node None = Decides-never (λ e. cc)
Decides-some_node node (Some other) = Decides-like (same_node other node) (λ is. ap Some is) (λ e. cc) (Decides-same_node other node)

module _ (nodes : List Node) (n : ℕ) (index : List (List ℕ)) (inside : n < length nodes) (ix : IsIndexOf (StandsAt node_key nodes n) index) where
  -- a node that stands before is found among the places noted at its key
  Decides-again : Decides (list_any (stands_at nodes (node_at nodes n)) (noted_at index (node_at nodes n))) (Contains (take n nodes) (node_at nodes n))
  Decides-again =
      Decides-like (list_any (stands_at nodes node) (noted_at index node)) to back
      (Decides-list_any (stands_at nodes node) (λ place. slice_get nodes place ≡ Some node) (noted_at index node) (λ place c. Decides-some_node node (slice_get nodes place)))
    where
      node : Node
      node = node_at nodes n

      to : (place : ℕ) × Contains (noted_at index node) place × (slice_get nodes place ≡ Some node) → Contains (take n nodes) node
      to found =
          let place = found.0 in
          let less : place < n = (ix.sound (node_key node) place found.1).1.0 in
          (place, omega (arith, less, inside, length-take n nodes), get_or-take n nodes place node less ∙ get_or_from_slice_get nodes place node node found.2)

      back : Contains (take n nodes) node → (place : ℕ) × Contains (noted_at index node) place × (slice_get nodes place ≡ Some node)
      back c =
          let place = c.0 in
          let less : place < n = omega (arith, c.1, length-take n nodes) in
          let within : place < length nodes = omega (arith, less, inside) in
          let here : get_or nodes place node ≡ node = sym (get_or-take n nodes place node less) ∙ c.2 in (
            place,
            ix.complete (node_key node) place (less, λ d. ap node_key (get_or_default nodes place d node within ∙ here)),
            slice_get_read nodes (length nodes) place node refl within (sym here),
          )

  pub again_broken : list_any (stands_at nodes (node_at nodes n)) (noted_at index (node_at nodes n)) ≡ true → Decides false (NoneTwice nodes)
  again_broken e = Decides-never (twice_before nodes n (Hexside 0) inside (yes Decides-again e))

  pub fresh_next : NoneTwice (take n nodes) → list_any (stands_at nodes (node_at nodes n)) (noted_at index (node_at nodes n)) ≡ false → NoneTwice (take (n + 1) nodes)
  fresh_next none e = rw (take_more nodes n (Hexside 0) inside) (NoneTwice-push (take n nodes) (node_at nodes n) none (no Decides-again e))
