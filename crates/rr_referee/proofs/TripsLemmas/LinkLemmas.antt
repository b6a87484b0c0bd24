-- Links, and those that don't touch a node.
use Rattle.std.proofs.Common.{◌≡◌, ℕ, ◌<◌, ◌≤◌, ◌⊎◌, Bool, true, false, not, List, [], ◌∷◌, length, refl, sym, ◌∙◌, ap, subst, inl, inr, arith}
use Rattle.std.proofs.lemmas.Bool.{false≢true}
use Rattle.std.specs.Bool.{Decides}
use Rattle.std.specs.List.{Contains, filter, slice_get}
use Rattle.rr_routes.specs.declared.net.Node.{Node}
use Rattle.rr_routes.specs.declared.net.Node.TheVariants.{Hexside}
use Rattle.rr_routes.specs.declared.net.Link.{Link}
use Rattle.rr_routes.specs.Net.{Net, AreEnds, Joins, Touches}
use Rattle.rr_routes.specs.Routes.{Passes, Walk, one_link, goes_on}
use Rattle.rr_routes.proofs.Elements.{Contains-here, Contains-there, Contains-cases, Contains-nil}
use Rattle.rr_routes.proofs.Walks.{Joins-at_from}
use Rattle.rr_checker.specs.Steps.{same_node}
use Rattle.rr_checker.specs.Own.{touches}
use Rattle.rr_checker.specs.Trips.{far, far_end}
use Rattle.rr_checker.proofs.StepLemmas.{yes, no, to_false, Decides-same_node}
use Rattle.rr_checker.proofs.OwnLemmas.{Decides-touches}
use Rattle.rr_referee.specs.Trips.Ways.{apart_from, GoesOn}

far_ends : (link : Link) (from : Node) → (from ≡ Hexside link.side) ⊎ (from ≡ link.other) → AreEnds link from (far from link)
far_ends link from ends = decided (same_node from (Hexside link.side)) refl ends
  where
    decided : (b : Bool) → same_node from (Hexside link.side) ≡ b → (from ≡ Hexside link.side) ⊎ (from ≡ link.other) → AreEnds link from (far from link)
    decided true e at = rw e (inl (yes (Decides-same_node from (Hexside link.side)) e, refl))
    decided false e (inl is) = absurd (no (Decides-same_node from (Hexside link.side)) e is)
    decided false e (inr is) = rw e (inr (is, refl))

-- what passes a test
filter-passes : (p : ℕ → Bool) (x : ℕ) (xs : List ℕ) → p x ≡ true → filter p (x ∷ xs) ≡ x ∷ filter p xs
filter-passes p x xs e = rw e refl

filter-fails : (p : ℕ → Bool) (x : ℕ) (xs : List ℕ) → p x ≡ false → filter p (x ∷ xs) ≡ filter p xs
filter-fails p x xs e = rw e refl

pub filter_sound : (p : ℕ → Bool) (xs : List ℕ) (y : ℕ) → Contains (filter p xs) y → Contains xs y × (p y ≡ true)
filter_sound p [] y c = absurd (Contains-nil y c)
filter_sound p (x ∷ xs) y c = decided (p x) refl (λ d. let h = filter_sound p xs y d in (Contains-there x xs y h.0, h.1))
  where
    decided : (b : Bool) → p x ≡ b → (Contains (filter p xs) y → Contains (x ∷ xs) y × (p y ≡ true)) → Contains (x ∷ xs) y × (p y ≡ true)
    decided true e later =
        elim (Contains-cases x (filter p xs) y (subst (λ (ls : List ℕ). Contains ls y) (filter-passes p x xs e) c)) [
          | inl is ↦ (subst (λ l. Contains (x ∷ xs) l) is (Contains-here x xs), subst (λ l. p l ≡ true) is e)
          | inr d ↦ later d
        ]
    decided false e later = later (subst (λ (ls : List ℕ). Contains ls y) (filter-fails p x xs e) c)

pub filter_complete : (p : ℕ → Bool) (xs : List ℕ) (y : ℕ) → Contains xs y → p y ≡ true → Contains (filter p xs) y
filter_complete p [] y c passes = absurd (Contains-nil y c)
filter_complete p (x ∷ xs) y c passes = decided (p x) refl (λ d. filter_complete p xs y d passes) (Contains-cases x xs y c)
  where
    decided : (b : Bool) → p x ≡ b → (Contains xs y → Contains (filter p xs) y) → (x ≡ y) ⊎ Contains xs y → Contains (filter p (x ∷ xs)) y
    decided true e later (inl is) =
        subst (λ (ls : List ℕ). Contains ls y) (sym (filter-passes p x xs e)) (subst (λ l. Contains (x ∷ filter p xs) l) is (Contains-here x (filter p xs)))
    decided true e later (inr d) = subst (λ (ls : List ℕ). Contains ls y) (sym (filter-passes p x xs e)) (Contains-there x (filter p xs) y (later d))
    decided false e later (inl is) = absurd (false≢true (sym e ∙ ap p is ∙ passes))
    decided false e later (inr d) = subst (λ (ls : List ℕ). Contains ls y) (sym (filter-fails p x xs e)) (later d)

pub not_true : (b : Bool) → not b ≡ true → b ≡ false
not_true true e = absurd (false≢true e)
not_true false e = refl

module _ (net : Net) where
  -- a link that touches a node joins it to the one at its far end
  pub far_joins : (link : ℕ) (from : Node) → Touches net link from → Joins net link from (far_end (slice_get net.links link) from)
  far_joins link from at = (at.0, at.1, rw at.1 (far_ends at.0 from at.2))

  pub Decides-by_walk : (result : Bool) (link : ℕ) (node : Node)
      → Decides result (Walk net (link ∷ []) (node ∷ far_end (slice_get net.links link) node ∷ [])) → Decides result (Touches net link node)
  Decides-by_walk result link node by_walk =
      (λ e. joined (by_walk.0 e), λ at. by_walk.1 (one_link link node (far_end (slice_get net.links link) node) (far_joins link node at)))
    where
      joined : Walk net (link ∷ []) (node ∷ far_end (slice_get net.links link) node ∷ []) → Touches net link node
      joined (one_link _ _ to joins) = Joins-at_from net link node to joins

  goes_by_walk : (link next : ℕ) (from to end : Node) → Walk net (link ∷ next ∷ []) (from ∷ to ∷ end ∷ []) → Joins net link from to × Passes net link to next × Joins net next to end
  goes_by_walk link next from to end (goes_on _ _ _ _ _ _ joins passes (one_link _ _ _ leads)) = (joins, passes, leads)

  pub Decides-goes_on : (result : Bool) (link next : ℕ) (from to : Node)
      → Decides result (Walk net (link ∷ next ∷ []) (from ∷ to ∷ far_end (slice_get net.links next) to ∷ [])) → Decides result (GoesOn net link from to next)
  Decides-goes_on result link next from to by_walk = (
    λ e. let parts = goes_by_walk link next from to (far_end (slice_get net.links next) to) (by_walk.0 e) in
        record { joins = parts.0; passes = parts.1; leads = parts.2 },
    λ goes. by_walk.1 (goes_on link next [] from to (far_end (slice_get net.links next) to ∷ []) goes.joins goes.passes
        (one_link next to (far_end (slice_get net.links next) to) goes.leads)),
  )

  -- the links that don't touch a node
  apart-touching : (node : Node) (x : ℕ) (xs : List ℕ) → touches net x node ≡ true → apart_from net node (x ∷ xs) ≡ apart_from net node xs
  apart-touching node x xs e = rw e refl

  apart-free : (node : Node) (x : ℕ) (xs : List ℕ) → touches net x node ≡ false → apart_from net node (x ∷ xs) ≡ x ∷ apart_from net node xs
  apart-free node x xs e = rw e refl

  pub apart_sound : (node : Node) (own : List ℕ) (link : ℕ) → Contains (apart_from net node own) link → Contains own link × (Touches net link node → ⊥)
  apart_sound node own link c =
      let h = filter_sound (λ l. not (touches net l node)) own link c in
      (h.0, no (Decides-touches net link node) (not_true (touches net link node) h.1))

  pub apart_complete : (node : Node) (own : List ℕ) (link : ℕ) → Contains own link → (Touches net link node → ⊥) → Contains (apart_from net node own) link
  apart_complete node own link c free =
      filter_complete (λ l. not (touches net l node)) own link c (ap not (to_false (touches net link node) (Decides-touches net link node) free))

  apart_within : (node : Node) (own : List ℕ) → length (apart_from net node own) ≤ length own
  apart_within node [] = omega arith
  apart_within node (x ∷ xs) = decided (touches net x node) refl (apart_within node xs)
    where
      decided : (b : Bool) → touches net x node ≡ b → length (apart_from net node xs) ≤ length xs → length (apart_from net node (x ∷ xs)) ≤ length (x ∷ xs)
      decided true e h = subst (λ (ls : List ℕ). length ls ≤ length (x ∷ xs)) (sym (apart-touching node x xs e)) (omega (arith, h))
      decided false e h = subst (λ (ls : List ℕ). length ls ≤ length (x ∷ xs)) (sym (apart-free node x xs e)) (omega (arith, h))

  -- there are fewer of them, where one does
  pub apart_fewer : (node : Node) (own : List ℕ) (link : ℕ) → Contains own link → Touches net link node → length (apart_from net node own) < length own
  apart_fewer node [] link c at = absurd (Contains-nil link c)
  apart_fewer node (x ∷ xs) link c at =
      decided (touches net x node) refl (apart_within node xs) (λ d. apart_fewer node xs link d at) (Contains-cases x xs link c)
    where
      decided : (b : Bool) → touches net x node ≡ b → length (apart_from net node xs) ≤ length xs → (Contains xs link → length (apart_from net node xs) < length xs)
          → (x ≡ link) ⊎ Contains xs link → length (apart_from net node (x ∷ xs)) < length (x ∷ xs)
      decided true e h fewer d = subst (λ (ls : List ℕ). length ls < length (x ∷ xs)) (sym (apart-touching node x xs e)) (omega (arith, h))
      decided false e h fewer (inl is) = absurd (no (Decides-touches net x node) e (subst (λ l. Touches net l node) (sym is) at))
      decided false e h fewer (inr d) = let less = fewer d in subst (λ (ls : List ℕ). length ls < length (x ∷ xs)) (sym (apart-free node x xs e)) (omega (arith, less))
