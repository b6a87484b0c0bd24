-- Trips over just the links of a train.
use Rattle.std.proofs.Common.{◌≡◌, ◌≢◌, ◌↔◌, ℕ, ◌+◌, ◌<◌, ◌==◌, ◌&&◌, not, true, false, Option, None, Some, Result, Ok, Err, List, [], ◌∷◌, length, get_or, refl, sym, ◌∙◌, ap, subst, inl, inr, arith}
use Rattle.std.specs.Bool.{Decides}
use Rattle.std.specs.Option.{MatchOption}
use Rattle.std.specs.Result.{IfOk}
use Rattle.std.specs.List.{Contains, slice_get}
use Rattle.std.proofs.lemmas.Bool.{cases_eq}
use Rattle.std.proofs.lemmas.Bool.Decides.{Decides-and, Decides-eqb, Decides-not}
use Rattle.std.proofs.lemmas.List.{get_or_default}
use Rattle.rr_routes.specs.declared.net.CentreLimit.{CentreLimit}
use Rattle.rr_routes.specs.declared.net.Node.{Node}
use Rattle.rr_routes.specs.declared.net.Node.TheVariants.{Hexside, Centre}
use Rattle.rr_routes.specs.Net.{Net, Joins, IsCentre, Touches}
use Rattle.rr_routes.specs.Routes.{Walk, one_link, goes_on, Path, Trip, Route, EndsAreCentres}
use Rattle.rr_routes.proofs.Elements.{Contains-here, Contains-nil, contained}
use Rattle.rr_routes.proofs.Walks.{only_first, two_at_most}
use Rattle.rr_checker.specs.Index.{IsNoted, is_noted}
use Rattle.rr_checker.specs.Own.{is_crowded, touches}
use Rattle.rr_checker.specs.Trips.{IsOnlyWay, IsTripOver, NoneFrom, NoneAt, centre_of, centre_at, is_missing, meets_another, trip_over}
use Rattle.rr_checker.proofs.IndexLemmas.{Decides-is_noted}
use Rattle.rr_checker.proofs.StepLemmas.{yes, no, Decides-list_any}
use Rattle.rr_checker.proofs.OwnLemmas.{Decides-is_crowded, Decides-touches, crowd_of}

-- these links are noted, and no others
abbrev pub AreNoted : List (List ℕ) → List ℕ → Type 0
AreNoted index links = (link : ℕ) → IsNoted index link ↔ Contains links link

Decides-is_missing : (own : List ℕ) (index : List (List ℕ)) → Decides (is_missing own index) ((link : ℕ) × Contains own link × (IsNoted index link → ⊥))
Decides-is_missing own index =
    Decides-list_any (λ link. not (is_noted index link)) (λ link. IsNoted index link → ⊥) own (λ link c. Decides-not (is_noted index link) (Decides-is_noted index link))

-- nothing is missing
none_missing : (own links : List ℕ) (index : List (List ℕ)) → AreNoted index links → is_missing own index ≡ false → (link : ℕ) → Contains own link → Contains links link
none_missing own links index noted e link c =
    elim (contained links link) [
      | inl there ↦ there
      | inr out ↦ absurd (no (Decides-is_missing own index) e (link, c, λ there. out ((noted link).0 there)))
    ]

some_missing : (own links : List ℕ) (index : List (List ℕ)) → AreNoted index links → is_missing own index ≡ true → ((link : ℕ) → Contains own link → Contains links link) → ⊥
some_missing own links index noted e all =
    let found = yes (Decides-is_missing own index) e in
    found.2 ((noted found.0).1 (all found.0 found.1))

-- a link that joins a centre to a node has it at its other end
end_centre : (net : Net) (link centre : ℕ) (to : Node) → Joins net link (Centre centre) to → centre_at (slice_get net.links link) ≡ Some centre
end_centre net link centre to joins =
    rw joins.1 (elim joins.2 [
      | inl ends ↦ let e = ends.0 in cc
      | inr ends ↦ subst (λ n. centre_of n ≡ Some centre) ends.0 refl
    ])

Decides-meets_another : (net : Net) (own : List ℕ) (link : ℕ) (node : Node)
    → Decides (meets_another net own link node) ((other : ℕ) × Contains own other × ((link ≢ other) × Touches net other node))
Decides-meets_another net own link node =
    Decides-list_any (λ other. not (link == other) && touches net other node) (λ other. (link ≢ other) × Touches net other node) own
    (λ other c. Decides-and (not (link == other)) (touches net other node) (Decides-not (link == other) (Decides-eqb link other)) (Decides-touches net other node))

module _ (net : Net) (limit : CentreLimit) (own : List ℕ) where
  pub no_links : own ≡ [] → IsTripOver net limit own (trip_over [] [])
  no_links e = record { lawful = inl refl; same = λ link. (λ c. absurd (Contains-nil link c), λ c. absurd (Contains-nil link (subst (λ xs. Contains xs link) e c))) }

  pub found_trip : (links : List ℕ) (nodes : List Node) (index : List (List ℕ)) → AreNoted index links → ((link : ℕ) → Contains links link → Contains own link)
      → is_missing own index ≡ false → Route net limit (trip_over links nodes) → IsTripOver net limit own (trip_over links nodes)
  found_trip links nodes index noted mine e route = record {
    lawful = inr route;
    same = λ link. (mine link, none_missing own links index noted e link);
  }

  -- a trip from the centre is the one that was followed
  followed : (centre : ℕ) (links : List ℕ) (nodes : List Node) → IsOnlyWay net own (Centre centre) links nodes → (trip : Trip) → IsTripOver net limit own trip
      → (behind : List Node) → trip.nodes ≡ Centre centre ∷ behind → Route net limit trip × (links ≡ trip.links) × (nodes ≡ trip.nodes)
  followed centre links nodes only trip over behind starts =
      elim over.lawful [
        | inl none ↦ let e : [] ≡ Centre centre ∷ behind = sym (ap (λ (t : Trip). t.nodes) none) ∙ starts in cc
        | inr route ↦
            let way = only trip.links behind (subst (λ ns. Path net trip.links ns) starts route.path) over.same in
            (route, way.0, way.1 ∙ sym starts)
      ]

  pub missing_own : (centre : ℕ) (links : List ℕ) (nodes : List Node) (index : List (List ℕ)) → IsOnlyWay net own (Centre centre) links nodes → AreNoted index links
      → is_missing own index ≡ true → NoneAt net limit own centre
  missing_own centre links nodes index only noted e trip over behind starts =
      let way = followed centre links nodes only trip over behind starts in
      some_missing own links index noted e (λ link c. subst (λ xs. Contains xs link) (sym way.1) ((over.same link).1 c))

  pub no_route : (centre : ℕ) (links : List ℕ) (nodes : List Node) → IsOnlyWay net own (Centre centre) links nodes → (Route net limit (trip_over links nodes) → ⊥) → NoneAt net limit own centre
  no_route centre links nodes only none trip over behind starts =
      let way = followed centre links nodes only trip over behind starts in
      let same : trip ≡ trip_over links nodes = rw (way.1, way.2) refl in
      none (subst (λ t. Route net limit t) same way.0)

  -- the first node of a route is the centre at the end of its first link
  begins_at : (links rest : List ℕ) (nodes : List Node) (link : ℕ) → Walk net links nodes → links ≡ link ∷ rest → EndsAreCentres nodes
      → (centre : ℕ) × (behind : List Node) × (nodes ≡ Centre centre ∷ behind) × (centre_at (slice_get net.links link) ≡ Some centre)
  begins_at _ rest _ link (one_link first from to joins) e ends = at_first from to (to ∷ []) ends.0 joins
    where
      is : first ≡ link
      is = cc

      at_first : (node next : Node) (behind : List Node) → IsCentre node → Joins net first node next
          → (centre : ℕ) × (after : List Node) × (node ∷ behind ≡ Centre centre ∷ after) × (centre_at (slice_get net.links link) ≡ Some centre)
      at_first (Hexside side) next behind none joined = absurd none
      at_first (Centre centre) next behind some joined = (centre, behind, refl, subst (λ l. centre_at (slice_get net.links l) ≡ Some centre) is (end_centre net first centre next joined))
  begins_at _ rest _ link (goes_on first later links from to nodes joins passes onward) e ends = at_first from to (to ∷ nodes) ends.0 joins
    where
      is : first ≡ link
      is = cc

      at_first : (node next : Node) (behind : List Node) → IsCentre node → Joins net first node next
          → (centre : ℕ) × (after : List Node) × (node ∷ behind ≡ Centre centre ∷ after) × (centre_at (slice_get net.links link) ≡ Some centre)
      at_first (Hexside side) next behind none joined = absurd none
      at_first (Centre centre) next behind some joined = (centre, behind, refl, subst (λ l. centre_at (slice_get net.links l) ≡ Some centre) is (end_centre net first centre next joined))

  from_first : (link : ℕ) (trip : Trip) → IsTripOver net limit own trip → (rest : List ℕ) → trip.links ≡ link ∷ rest
      → (centre : ℕ) × (behind : List Node) × (trip.nodes ≡ Centre centre ∷ behind) × (centre_at (slice_get net.links link) ≡ Some centre)
  from_first link trip over rest starts =
      elim over.lawful [
        | inl none ↦ let e : [] ≡ link ∷ rest = sym (ap (λ (t : Trip). t.links) none) ∙ starts in cc
        | inr route ↦ begins_at trip.links rest trip.nodes link route.path.0 starts route.ends
      ]

  pub none_without : (link : ℕ) → centre_at (slice_get net.links link) ≡ None → NoneFrom net limit own link
  none_without link none trip over rest starts =
      let first = from_first link trip over rest starts in
      let e : None ≡ Some first.0 = sym none ∙ first.3 in cc

  pub none_at_centre : (link centre : ℕ) → centre_at (slice_get net.links link) ≡ Some centre → NoneAt net limit own centre → NoneFrom net limit own link
  none_at_centre link centre is none trip over rest starts =
      let first = from_first link trip over rest starts in
      let same : first.0 ≡ centre = (let e = first.3 in cc) in
      none trip over first.1 (subst (λ n. trip.nodes ≡ Centre n ∷ first.1) same first.2)

  -- a route has at most two links at a node
  pub none_crowded : is_crowded net own ≡ true → (trip : Trip) → IsTripOver net limit own trip → ⊥
  none_crowded crowded trip over =
      let at = crowd_of net own (yes (Decides-is_crowded net own) crowded) in
      let one : ℕ = at.1 in
      let two : ℕ = at.4.0 in
      let second = at.4.2 in
      let third = second.1.1 in
      let three : ℕ = third.0 in
      let in_one : Contains trip.links one = (over.same one).1 at.2 in
      let in_two : Contains trip.links two = (over.same two).1 at.4.1 in
      let in_three : Contains trip.links three = (over.same three).1 third.1 in
      elim over.lawful [
        | inl none ↦ Contains-nil one (subst (λ (t : Trip). Contains t.links one) none in_one)
        | inr route ↦ elim (two_at_most net route.path.0 route.path.1 at.0 one two three in_one in_two in_three at.3 second.1.0 third.2.1.1) [
          | inl same ↦ second.0 same
          | inr others ↦ elim others [ inl same ↦ third.2.0 same | inr same ↦ third.2.1.0 same ]
        ]
      ]

  -- of a route only the first link touches the node where it begins
  pub none_meeting : (near : List ℕ) → ((link : ℕ) → Contains near link → Contains own link) → (link centre : ℕ) → centre_at (slice_get net.links link) ≡ Some centre
      → meets_another net near link (Centre centre) ≡ true → NoneFrom net limit own link
  none_meeting near mine link centre is meets trip over rest starts =
      let first = from_first link trip over rest starts in
      let same : first.0 ≡ centre = (let e = first.3 in cc) in
      let nodes_are : trip.nodes ≡ Centre centre ∷ first.1 = subst (λ n. trip.nodes ≡ Centre n ∷ first.1) same first.2 in
      let other = yes (Decides-meets_another net near link (Centre centre)) meets in
      elim over.lawful [
        | inl none ↦ let e : [] ≡ link ∷ rest = sym (ap (λ (t : Trip). t.links) none) ∙ starts in cc
        | inr route ↦
            let path : Path net (link ∷ rest) (Centre centre ∷ first.1) =
            subst (λ (ls : List ℕ). Path net ls (Centre centre ∷ first.1)) starts (subst (λ (ns : List Node). Path net trip.links ns) nodes_are route.path) in
            other.2.0 (only_first net link rest (Centre centre) first.1 path.0 path.1 other.0
            (subst (λ (ls : List ℕ). Contains ls other.0) starts ((over.same other.0).1 (mine other.0 other.1))) other.2.1)
      ]

  pub none_at_all : 0 < length own → ((k : ℕ) → k < length own → NoneFrom net limit own (get_or own k 0)) → (trip : Trip) → IsTripOver net limit own trip → ⊥
  none_at_all some each trip over = at_links trip.links refl
    where
      at_links : (links : List ℕ) → trip.links ≡ links → ⊥
      at_links [] e =
          Contains-nil (get_or own 0 0) (subst (λ xs. Contains xs (get_or own 0 0)) e ((over.same (get_or own 0 0)).1 (0, some, sym (get_or_default own 0 0 (get_or own 0 0) some))))
      at_links (first ∷ rest) e =
          let c : Contains own first = (over.same first).0 (subst (λ xs. Contains xs first) (sym e) (Contains-here first rest)) in
          let here : get_or own c.0 0 ≡ first = get_or_default own c.0 0 first c.1 ∙ c.2 in
          each c.0 c.1 trip over rest (e ∙ ap (λ (l : ℕ). l ∷ rest) (sym here))

-- what follows of a search that finds nothing
pub finds : {A E P Q : Type 0} (Here : A → Type 0) (r : Result (Option A) E) → (P → Q) → IfOk r (λ found. MatchOption found P Here) → IfOk r (λ found. MatchOption found Q Here)
finds Here (Ok None) f p = f p
finds Here (Ok (Some x)) f h = h
finds Here (Err e) f h = tt

pub none_from_more : (net : Net) (limit : CentreLimit) (own : List ℕ) (i : ℕ) → ((k : ℕ) → k < i → NoneFrom net limit own (get_or own k 0)) → NoneFrom net limit own (get_or own i 0)
    → (k : ℕ) → k < i + 1 → NoneFrom net limit own (get_or own k 0)
none_from_more net limit own i before here k less =
    elim (cases_eq k i) [
      | inl same ↦ subst (λ j. NoneFrom net limit own (get_or own j 0)) (sym same) here
      | inr differ ↦ before k (omega arith)
    ]
