-- The steps over the links of a network, and the links at places.
use Rattle.std.proofs.Common.{◌≡◌, ℕ, ◌+◌, ◌⊎◌, zero, suc, List, [], ◌∷◌, inl, inr, refl, sym, ◌∙◌, ap, subst, arith}
use Rattle.std.specs.Prelude.{Option, None, Some, option_map}
use Rattle.std.specs.List.{Contains, slice_get}
use Rattle.std.proofs.lemmas.Option.{slice_get_within}
use Rattle.rr_network.specs.declared.node.Link.{Link}
use Rattle.rr_network.specs.declared.step.Step.{Step}
use Rattle.rr_network.specs.Walk.{backward, forward, steps_from, steps_of}
use Rattle.rr_routes.specs.declared.net.Link.{Link as PlacedLink}
use Rattle.rr_routes.proofs.Elements.{Contains-cases, Contains-here, Contains-nil, Contains-there}

-- the step goes over the link of that place
pub record IsStepOver (links : List Link) (step : Step) (place : ℕ) : Type 0 where
  pub link : Link
  pub at : slice_get links place ≡ Some link
  pub over : (step ≡ forward (place + 1) link) ⊎ (step ≡ backward (place + 1) link)

-- it is one of the steps over links, of which the first has this number
record IsStepFrom (number : ℕ) (links : List Link) (step : Step) : Type 0 where
  pub place : ℕ
  pub link : Link
  pub at : slice_get links place ≡ Some link
  pub over : (step ≡ forward (number + place) link) ⊎ (step ≡ backward (number + place) link)

is_later : (number : ℕ) (first : Link) (links : List Link) (step : Step) → IsStepFrom (number + 1) links step → IsStepFrom number (first ∷ links) step
is_later number first links step s =
    let same : number + 1 + s.place ≡ number + suc s.place = omega arith in
    record {
      place = suc s.place;
      link = s.link;
      at = s.at;
      over = subst (λ n. (step ≡ forward n s.link) ⊎ (step ≡ backward n s.link)) same s.over;
    }

is_first : (number : ℕ) (first : Link) (links : List Link) (step : Step) → (step ≡ forward number first) ⊎ (step ≡ backward number first) → IsStepFrom number (first ∷ links) step
is_first number first links step over =
    let same : number ≡ number + 0 = omega arith in
    record { place = 0; link = first; at = refl; over = subst (λ n. (step ≡ forward n first) ⊎ (step ≡ backward n first)) same over }

step_from : (number : ℕ) (links : List Link) (step : Step) → Contains (steps_from number links) step → IsStepFrom number links step
unfolding steps_from
step_from number [] step c = absurd (Contains-nil step c)
step_from number (first ∷ links) step c =
    elim (Contains-cases (forward number first) (backward number first ∷ steps_from (number + 1) links) step c) [
      | inl is ↦ is_first number first links step (inl (sym is))
      | inr later ↦ elim (Contains-cases (backward number first) (steps_from (number + 1) links) step later) [
        | inl is ↦ is_first number first links step (inr (sym is))
        | inr rest ↦ is_later number first links step (step_from (number + 1) links step rest)
      ]
    ]

pub step_over : (links : List Link) (step : Step) → Contains (steps_of links) step → (place : ℕ) × IsStepOver links step place
step_over links step c =
    let s = step_from 1 links step c in
    let same : 1 + s.place ≡ s.place + 1 = omega arith in
    (s.place, record { link = s.link; at = s.at; over = subst (λ n. (step ≡ forward n s.link) ⊎ (step ≡ backward n s.link)) same s.over })

both_steps : (number : ℕ) (links : List Link) (place : ℕ) (link : Link) → slice_get links place ≡ Some link
    → Contains (steps_from number links) (forward (number + place) link) × Contains (steps_from number links) (backward (number + place) link)
unfolding steps_from
both_steps number [] place link at = absurd (omega (arith, slice_get_within {A = Link} [] place link at))
both_steps number (first ∷ links) zero link at =
    let is : first ≡ link = cc in
    let same : number ≡ number + 0 = omega arith in
    subst (λ n. Contains (steps_from number (first ∷ links)) (forward n link) × Contains (steps_from number (first ∷ links)) (backward n link)) same
    (subst (λ l. Contains (steps_from number (first ∷ links)) (forward number l) × Contains (steps_from number (first ∷ links)) (backward number l)) is (
      Contains-here (forward number first) (backward number first ∷ steps_from (number + 1) links),
      Contains-there (forward number first) (backward number first ∷ steps_from (number + 1) links) (backward number first) (Contains-here (backward number first) (steps_from (number + 1) links)),
    ))
both_steps number (first ∷ links) (suc place) link at =
    let rest = both_steps (number + 1) links place link at in
    let same : number + 1 + place ≡ number + suc place = omega arith in
    let further : (step : Step) → Contains (steps_from (number + 1) links) step → Contains (steps_from number (first ∷ links)) step
    = λ step c. Contains-there (forward number first) (backward number first ∷ steps_from (number + 1) links) step (Contains-there (backward number first) (steps_from (number + 1) links) step c) in
    subst (λ n. Contains (steps_from number (first ∷ links)) (forward n link) × Contains (steps_from number (first ∷ links)) (backward n link)) same
    (further (forward (number + 1 + place) link) rest.0, further (backward (number + 1 + place) link) rest.1)

pub step_among : (links : List Link) (step : Step) (place : ℕ) → IsStepOver links step place → Contains (steps_of links) step
step_among links step place s =
    let both = both_steps 1 links place s.link s.at in
    let same : 1 + place ≡ place + 1 = omega arith in
    elim s.over [
      | inl is ↦ subst (λ x. Contains (steps_of links) x) (ap (λ n. forward n s.link) same ∙ sym is) both.0
      | inr is ↦ subst (λ x. Contains (steps_of links) x) (ap (λ n. backward n s.link) same ∙ sym is) both.1
    ]

-- a link at a place is among all
pub link_among : (links : List Link) (place : ℕ) (link : Link) → slice_get links place ≡ Some link → Contains links link
link_among [] place link at = absurd (omega (arith, slice_get_within {A = Link} [] place link at))
link_among (first ∷ links) zero link at = let is : first ≡ link = cc in subst (λ l. Contains (first ∷ links) l) is (Contains-here first links)
link_among (first ∷ links) (suc place) link at = Contains-there first links link (link_among links place link at)

pub step-number : (links : List Link) (step : Step) (place : ℕ) → IsStepOver links step place → step.number ≡ place + 1
step-number links step place s = elim s.over [ inl is ↦ ap (λ (x : Step). x.number) is | inr is ↦ ap (λ (x : Step). x.number) is ]

pub step-hex : (links : List Link) (step : Step) (place : ℕ) (s : IsStepOver links step place) → step.hex ≡ s.link.hex
step-hex links step place s = elim s.over [ inl is ↦ ap (λ (x : Step). x.hex) is | inr is ↦ ap (λ (x : Step). x.hex) is ]

-- the link of the network at the place of a link of the net
pub mapped : (f : Link → PlacedLink) (links : List Link) (place : ℕ) (other : PlacedLink) (found : Option Link) → slice_get links place ≡ found → option_map f found ≡ Some other
    → (link : Link) × (slice_get links place ≡ Some link) × (f link ≡ other)
mapped f links place other None at e = absurd (none_is_some e)
  where
    none_is_some : None ≡ Some other → ⊥
    none_is_some h = cc
mapped f links place other (Some link) at e = let is : f link ≡ other = cc in (link, at, is)
