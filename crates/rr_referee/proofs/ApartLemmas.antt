-- Whether no hexside is in two trips.
use Rattle.std.proofs.Common.{◌≡◌, ℕ, ◌+◌, ◌<◌, ◌≤◌, true, false, List, length, get_or, take, refl, sym, ◌∙◌, subst, inl, inr, arith}
use Rattle.std.specs.Bool.{Decides}
use Rattle.std.specs.List.{Contains, list_any}
use Rattle.std.proofs.lemmas.Bool.{cases_eq, cases_lt}
use Rattle.std.proofs.lemmas.Bool.Decides.{Decides-like}
use Rattle.std.proofs.lemmas.List.{get_or_default, get_or_past, get_or-take, length-take-le}
use Rattle.rr_routes.specs.declared.net.Node.{Node}
use Rattle.rr_routes.specs.declared.net.Node.TheVariants.{Hexside, Centre}
use Rattle.rr_routes.specs.Routes.{Trip, no_trip, trip_of, Apart}
use Rattle.rr_routes.proofs.Elements.{Contains-nil}
use Rattle.rr_checker.specs.Steps.{same_node}
use Rattle.rr_checker.proofs.StepLemmas.{yes, no, Decides-never, Decides-always, Decides-list_any}
use Rattle.rr_checker.proofs.TripLemmas.{Decides-has_node}
use Rattle.rr_referee.specs.Sheets.{AreApart}
use Rattle.rr_referee.specs.Tests.{is_side_in, shares_side}

-- the node is a hexside among the nodes
abbrev IsSideIn : List Node → Node → Type 0
IsSideIn nodes node = (side : ℕ) × (node ≡ Hexside side) × Contains nodes (Hexside side)

Decides-is_side_in : (nodes : List Node) (node : Node) → Decides (is_side_in nodes node) (IsSideIn nodes node)
Decides-is_side_in nodes (Centre centre) = Decides-never (λ at. let differ : Centre centre ≡ Hexside at.0 = at.1 in cc)
Decides-is_side_in nodes (Hexside side) =
    Decides-like (list_any (λ other. same_node other (Hexside side)) nodes) (λ c. (side, refl, c)) (λ at. subst (λ n. Contains nodes n) (sym at.1) at.2)
    (Decides-has_node nodes (Hexside side))

-- a hexside is in both trips
abbrev Meets : Trip → Trip → Type 0
Meets one other = (side : ℕ) × Contains one.nodes (Hexside side) × Contains other.nodes (Hexside side)

Decides-shares_side : (one other : Trip) → Decides (shares_side one other) (Meets one other)
Decides-shares_side one other =
    Decides-like (shares_side one other)
    (λ found. (found.2.0, subst (λ n. Contains one.nodes n) found.2.1 found.1, found.2.2))
    (λ meets. (Hexside meets.0, meets.1, (meets.0, refl, meets.2)))
    (Decides-list_any (λ node. is_side_in other.nodes node) (λ node. IsSideIn other.nodes node) one.nodes (λ node c. Decides-is_side_in other.nodes node))

Decides-meets_any : (before : List Trip) (trip : Trip) → Decides (list_any (λ other. shares_side other trip) before) ((other : Trip) × Contains before other × Meets other trip)
Decides-meets_any before trip = Decides-list_any (λ other. shares_side other trip) (λ other. Meets other trip) before (λ other c. Decides-shares_side other trip)

-- no hexside is in two of the first so many trips
abbrev pub ApartSoFar : List Trip → ℕ → Type 0
ApartSoFar run count = (one other : ℕ) → one < other → other < count → Apart (trip_of run one) (trip_of run other)

module _ (run : List Trip) where
  among : (place k : ℕ) → k < place → place < length run → Contains (take place run) (trip_of run k)
  among place k less inside =
      let same : get_or (take place run) k (trip_of run k) ≡ get_or run k (trip_of run k) = grind (arith, get_or-take) in
      (k, rw (length-take-le place run (omega arith)) less, same ∙ get_or_default run k (trip_of run k) no_trip (omega arith))

  pub apart_next : (place : ℕ) → place < length run → list_any (λ other. shares_side other (trip_of run place)) (take place run) ≡ false
      → ApartSoFar run place → ApartSoFar run (place + 1)
  apart_next place inside none before one other less within side here there =
      elim (cases_eq other place) [
        | inl same ↦ no (Decides-meets_any (take place run) (trip_of run place)) none (
          trip_of run one,
          among place one (omega arith) inside,
          (side, here, subst (λ j. Contains (trip_of run j).nodes (Hexside side)) same there),
        )
        | inr differ ↦ before one other less (omega arith) side here there
      ]

  pub apart_broken : (place : ℕ) → place < length run → list_any (λ other. shares_side other (trip_of run place)) (take place run) ≡ true → Decides false (AreApart run)
  apart_broken place inside some =
      let found = yes (Decides-meets_any (take place run) (trip_of run place)) some in
      let k = found.1.0 in
      let within : k < length (take place run) = found.1.1 in
      let count = length-take-le place run (omega arith) in
      let less : k < place = omega (arith, within, count) in
      let same : get_or (take place run) k found.0 ≡ get_or run k found.0 = grind (arith, get_or-take) in
      let is : trip_of run k ≡ found.0 = get_or_default run k no_trip found.0 (omega arith) ∙ sym same ∙ found.1.2 in
      Decides-never (λ apart. apart k place (λ e. omega arith) found.2.0 (subst (λ (trip : Trip). Contains trip.nodes (Hexside found.2.0)) (sym is) found.2.1) found.2.2)

  none_past : (train side : ℕ) → length run ≤ train → Contains (trip_of run train).nodes (Hexside side) → ⊥
  none_past train side past c = Contains-nil (Hexside side) (subst (λ (trip : Trip). Contains trip.nodes (Hexside side)) (get_or_past run train no_trip past) c)

  ordered : ApartSoFar run (length run) → (one other : ℕ) → one < other → Apart (trip_of run one) (trip_of run other)
  ordered each one other less side here there =
      elim (cases_lt other (length run)) [
        | inl inside ↦ each one other less inside side here there
        | inr past ↦ none_past other side past there
      ]

  pub apart_done : (place : ℕ) → length run ≤ place → ApartSoFar run place → Decides true (AreApart run)
  apart_done place most each =
      Decides-always (λ one other differ side here there.
      let all : ApartSoFar run (length run) = λ i j less inside. each i j less (omega arith) in
      elim (cases_lt one other) [
        | inl less ↦ ordered all one other less side here there
        | inr least ↦ ordered all other one (omega arith) side there here
      ])

  -- the trip that is read at a place
  pub trip_read : (place : ℕ) (trip : Trip) → place < length run → trip ≡ get_or run place trip → trip ≡ trip_of run place
  trip_read place trip inside is = is ∙ get_or_default run place trip no_trip inside
