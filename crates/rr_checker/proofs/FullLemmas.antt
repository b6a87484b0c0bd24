-- The run over decided links.
use Rattle.std.proofs.Common.{◌≡◌, ◌≢◌, ℕ, ◌+◌, ◌<◌, ◌≤◌, ◌⊎◌, true, false, Option, None, Some, List, [], ◌∷◌, ◌++◌, length, leb, map, refl, sym, ◌∙◌, ap, subst, inl, inr, arith}
use Rattle.std.specs.Bool.{Decides}
use Rattle.std.specs.Option.{MatchOption, is_some}
use Rattle.std.specs.List.{Contains, list_any, sum_by}
use Rattle.std.proofs.lemmas.Bool.{false≢true, cases_eq, cases_lt}
use Rattle.std.proofs.lemmas.Bool.Decides.{Decides-like, leb_tells}
use Rattle.std.proofs.lemmas.List.{get_or_default, get_or_past, get_or_append_left, get_or_push, length_push, map-append}
use Rattle.std.proofs.lemmas.List.Elements.{Contains-get_or}
use Rattle.rr_routes.specs.declared.net.Node.{Node}
use Rattle.rr_routes.specs.declared.net.Node.TheVariants.{Hexside, Centre}
use Rattle.rr_routes.specs.declared.certificate.Fate.{Fate}
use Rattle.rr_routes.specs.declared.certificate.Fate.TheVariants.{Open, Denied, Of}
use Rattle.rr_routes.specs.Net.{Net, Touches, limit_of}
use Rattle.rr_routes.specs.Routes.{Walk, one_link, goes_on, Trip, no_trip, trip_of, Route, Run, centres, worth, earned}
use Rattle.rr_routes.specs.Certificates.{fate_of, Allows, Uses, Keeps, IsFull}
use Rattle.rr_routes.proofs.Elements.{Contains-here, Contains-there, Contains-cases, Contains-nil, Contains-single, sum_by-map}
use Rattle.rr_routes.proofs.Walks.{Joins-at_from, Joins-at_to, Walk-touched}
use Rattle.rr_routes.proofs.Fates.{Uses-Route}
use Rattle.rr_routes.proofs.SameLinks.{full_none, full_one}
use Rattle.rr_checker.specs.Own.{is_of, is_others, AreLinksWith, is_shared}
use Rattle.rr_checker.specs.Trips.{IsTripOver}
use Rattle.rr_checker.specs.Runs.{is_undecided, is_stray, AllDecided, NoRunKeeps, IsOwnTrip, CountsOn, AreCounted}
use Rattle.rr_checker.proofs.StepLemmas.{yes, no, to_true, Decides-never, Decides-always, Decides-list_any}
use Rattle.rr_checker.proofs.OwnLemmas.{Decides-is_of, Decides-is_others, Decides-is_shared, Shared, SideOf}

Decides-leb : (a b : ℕ) → Decides (leb a b) (a ≤ b)
Decides-leb a b =
    elim (leb_tells a b) [
      | inl h ↦ (λ e. h.1, λ less. h.0)
      | inr h ↦ (λ e. absurd (false≢true (sym h.0 ∙ e)), λ less. absurd (omega arith))
    ]

Decides-is_undecided : (fate : Fate) → Decides (is_undecided fate) (fate ≡ Open)
Decides-is_undecided Open = Decides-always refl
Decides-is_undecided Denied = Decides-never (λ e. cc)
Decides-is_undecided (Of owner) = Decides-never (λ e. cc)

Decides-is_stray : (count : ℕ) (fate : Fate) → Decides (is_stray count fate) ((owner : ℕ) × (fate ≡ Of owner) × (count ≤ owner))
Decides-is_stray count Open = Decides-never (λ s. let e = s.1 in cc)
Decides-is_stray count Denied = Decides-never (λ s. let e = s.1 in cc)
Decides-is_stray count (Of owner) =
    Decides-like (leb count owner) (λ past. (owner, refl, past))
    (λ s. let same : owner ≡ s.0 = (let e = s.1 in cc) in subst (λ o. count ≤ o) (sym same) s.2) (Decides-leb count owner)

-- a fate that isn't denied stands in the list
fate_in : (fates : List Fate) (link : ℕ) → fate_of fates link ≢ Denied → Contains fates (fate_of fates link)
fate_in fates link other =
    elim (cases_lt link (length fates)) [
      | inl inside ↦ Contains-get_or fates link Denied inside
      | inr past ↦ absurd (other (get_or_past fates link Denied past))
    ]

pub open_left : (net : Net) (claim : ℕ) (fates : List Fate) → list_any is_undecided fates ≡ true → Decides false (IsFull net claim fates)
open_left net claim fates some =
    let found = yes (Decides-list_any is_undecided (λ fate. fate ≡ Open) fates (λ fate c. Decides-is_undecided fate)) some in
    let place = found.1 in
    Decides-never (λ full. full.decided place.0
    (get_or_default fates place.0 Denied found.0 place.1 ∙ place.2 ∙ found.2))

pub decided_all : (fates : List Fate) → list_any is_undecided fates ≡ false → AllDecided fates
decided_all fates none link opened =
    let other : fate_of fates link ≢ Denied = λ e. (let f : Open ≡ Denied = sym opened ∙ e in cc) in
    no (Decides-list_any is_undecided (λ fate. fate ≡ Open) fates (λ fate c. Decides-is_undecided fate)) none (fate_of fates link, fate_in fates link other, opened)

-- a train that a link is of is one of the net's
pub none_stray : (fates : List Fate) (count : ℕ) → list_any (is_stray count) fates ≡ false → (link train : ℕ) → fate_of fates link ≡ Of train → train < count
none_stray fates count none link train owned =
    elim (cases_lt train count) [
      | inl inside ↦ inside
      | inr past ↦
          let other : fate_of fates link ≢ Denied = λ e. (let f : Of train ≡ Denied = sym owned ∙ e in cc) in
          absurd (no (Decides-list_any (is_stray count) (λ fate. (owner : ℕ) × (fate ≡ Of owner) × (count ≤ owner)) fates (λ fate c. Decides-is_stray count fate)) none
          (fate_of fates link, fate_in fates link other, (train, owned, past)))
    ]

module _ (net : Net) (fates : List Fate) where
  trip_past : (run : List Trip) (train : ℕ) → length run ≤ train → trip_of run train ≡ no_trip
  trip_past run train past = get_or_past run train no_trip past

  -- where a link is of a train that the net hasn't, no run goes over it
  pub stray_left : (claim : ℕ) → list_any is_undecided fates ≡ false → list_any (is_stray (length net.trains)) fates ≡ true → Decides true (IsFull net claim fates)
  stray_left claim none some =
      let found = yes (Decides-list_any (is_stray (length net.trains)) (λ fate. (owner : ℕ) × (fate ≡ Of owner) × (length net.trains ≤ owner)) fates
      (λ fate c. Decides-is_stray (length net.trains) fate)) some in
      let place = found.1 in
      let owner = found.2.0 in
      let owned : fate_of fates place.0 ≡ Of owner =
      get_or_default fates place.0 Denied found.0 place.1 ∙ place.2 ∙ found.2.1 in
      Decides-always (full_none net claim fates (decided_all fates none) (λ run is_run keeps.
      let uses = keeps.all_own owner place.0 owned in
      let past : trip_of run owner ≡ no_trip = trip_past run owner (omega (arith, is_run.complete, found.2.2)) in
      Contains-nil place.0 (subst (λ trip. Contains trip.links place.0) past uses)))

  own_fate : (fate : Fate) (train : ℕ) → fate ≢ Open → Allows fate train → fate ≡ Of train
  own_fate Open train decided allowed = absurd (decided refl)
  own_fate Denied train decided allowed = absurd allowed
  own_fate (Of owner) train decided allowed = ap Of allowed

  module _ (train : ℕ) (own others : List ℕ) (mine : AreLinksWith (is_of train) fates own) (theirs : AreLinksWith (is_others train) fates others) where
    is_mine : (link : ℕ) → Contains own link → fate_of fates link ≡ Of train
    is_mine link c = yes (Decides-is_of train (fate_of fates link)) ((mine.exact link).0 c)

    in_own : (link : ℕ) → fate_of fates link ≡ Of train → Contains own link
    in_own link e = (mine.exact link).1 (to_true (is_of train (fate_of fates link)) (Decides-is_of train (fate_of fates link)) e)

    -- a hexside of the train and of another
    clash : (place : ℕ) → Contains own place → (node : Node) → Touches net place node → SideOf net fates train others node → NoRunKeeps net fates
    clash place c (Centre centre) touching none decided run is_run keeps = absurd none
    clash place c (Hexside side) touching found decided run is_run keeps =
        let owned = yes (Decides-is_others train (fate_of fates found.0)) ((theirs.exact found.0).0 found.1) in
        let uses = keeps.all_own train place (is_mine place c) in
        let also = keeps.all_own owned.0 found.0 owned.2 in
        is_run.apart train owned.0 owned.1 side
        (Walk-touched net (Uses-Route net run is_run train place uses).path.0 place (Hexside side) uses touching)
        (Walk-touched net (Uses-Route net run is_run owned.0 found.0 also).path.0 found.0 (Hexside side) also found.2)

    pub shared_none : is_shared net own others ≡ true → NoRunKeeps net fates
    shared_none some =
        let shared : Shared net fates train own others = yes (Decides-is_shared net fates train own others) some in
        elim shared.2.2 [
          | inl side ↦ clash shared.0 shared.1 (Hexside shared.2.0.side) (shared.2.0, shared.2.1, inl refl) side
          | inr side ↦ clash shared.0 shared.1 shared.2.0.other (shared.2.0, shared.2.1, inr refl) side
        ]

    pub no_journey : ((trip : Trip) → IsTripOver net (limit_of net train) own trip → ⊥) → NoRunKeeps net fates
    no_journey none decided run is_run keeps =
        none (trip_of run train) (record {
          lawful = is_run.lawful train;
          same = λ link. (
            λ uses. in_own link (own_fate (fate_of fates link) train (decided link) (keeps.within train link uses)),
            λ c. keeps.all_own train link (is_mine link c),
          );
        })

    pub own_trip : (trip : Trip) → IsTripOver net (limit_of net train) own trip → is_shared net own others ≡ false → IsOwnTrip net fates train trip
    own_trip trip over apart = record {
      lawful = over.lawful;
      same = λ link. (λ c. is_mine link ((over.same link).0 c), λ e. (over.same link).1 (in_own link e));
      apart = λ side link other owner differ own_link owned at_link at_other.
          let found : SideOf net fates train others (Hexside side) =
          (other, (theirs.exact other).1 (to_true (is_others train (fate_of fates other)) (Decides-is_others train (fate_of fates other)) (owner, differ, owned)), at_other) in
          no (Decides-is_shared net fates train own others) apart (
            link,
            in_own link own_link,
            (
              at_link.0,
              at_link.1,
              elim at_link.2 [
                | inl is ↦ inl (subst (λ n. SideOf net fates train others n) is found)
                | inr is ↦ inr (subst (λ n. SideOf net fates train others n) is found)
              ],
            ),
          );
    }

  pub counted_first : AreCounted net fates 0 []
  counted_first = record { run = []; complete = refl; each = λ train less. absurd (omega arith); counted = refl }

  pub counted_next : (n : ℕ) (all new : List (List ℕ)) (counted : List ℕ) → AreCounted net fates n all → CountsOn net fates n counted → new ≡ all ++ counted ∷ []
      → AreCounted net fates (n + 1) new
  counted_next n all new counted so_far on pushed = record {
    run = so_far.run ++ on.0 ∷ [];
    complete = omega (arith, so_far.complete, length_push so_far.run on.0);
    each = λ train less. elim (cases_eq train n) [
      | inl same ↦ subst (λ t. IsOwnTrip net fates t (trip_of (so_far.run ++ on.0 ∷ []) t)) (sym same)
          (subst (λ trip. IsOwnTrip net fates n trip) (sym (get_or_push so_far.run on.0 no_trip n so_far.complete)) on.1)
      | inr differ ↦ subst (λ trip. IsOwnTrip net fates train trip)
          (sym (get_or_append_left so_far.run (on.0 ∷ []) no_trip train (omega (arith, so_far.complete, less, differ))))
          (so_far.each train (omega arith))
    ];
    counted = pushed ∙ ap (λ (xs : List (List ℕ)). xs ++ counted ∷ []) so_far.counted ∙ ap (λ (cs : List ℕ). map (λ trip. centres trip.nodes) so_far.run ++ cs ∷ []) on.2
        ∙ sym (map-append (λ (trip : Trip). centres trip.nodes) so_far.run (on.0 ∷ []));
  }

  -- each node of a walk is touched by a link of it
  node_touched : {links : List ℕ} {nodes : List Node} → Walk net links nodes → (node : Node) → Contains nodes node → (link : ℕ) × Contains links link × Touches net link node
  node_touched (one_link link from to joins) node c =
      elim (Contains-cases from (to ∷ []) node c) [
        | inl is ↦ (link, Contains-here link [], subst (λ n. Touches net link n) is (Joins-at_from net link from to joins))
        | inr later ↦ (link, Contains-here link [], subst (λ n. Touches net link n) (Contains-single to node later) (Joins-at_to net link from to joins))
      ]
  node_touched (goes_on first next links from to nodes joins passes rest) node c =
      elim (Contains-cases from (to ∷ nodes) node c) [
        | inl is ↦ (first, Contains-here first (next ∷ links), subst (λ n. Touches net first n) is (Joins-at_from net first from to joins))
        | inr later ↦
            let found = node_touched rest node later in
            (found.0, Contains-there first (next ∷ links) found.0 found.1, found.2)
      ]

  module _ (all : List (List ℕ)) (a : AreCounted net fates (length net.trains) all) (decided : AllDecided fates) (inside : (link train : ℕ) → fate_of fates link ≡ Of train → train < length net.trains) where
    trip_at : (train : ℕ) → (trip_of a.run train ≡ no_trip) ⊎ IsOwnTrip net fates train (trip_of a.run train)
    trip_at train =
        elim (cases_lt train (length net.trains)) [
          | inl less ↦ inr (a.each train less)
          | inr past ↦ inl (trip_past a.run train (omega (arith, a.complete, past)))
        ]

    lawful : (train : ℕ) → (trip_of a.run train ≡ no_trip) ⊎ Route net (limit_of net train) (trip_of a.run train)
    lawful train = elim (trip_at train) [ inl none ↦ inl none | inr own ↦ own.lawful ]

    -- a link of the train's trip that touches a node of it, and is the train's own
    touching : (train : ℕ) (node : Node) → Contains (trip_of a.run train).nodes node → (link : ℕ) × (fate_of fates link ≡ Of train) × Touches net link node
    touching train node c =
        elim (trip_at train) [
          | inl none ↦ absurd (Contains-nil node (subst (λ trip. Contains trip.nodes node) none c))
          | inr own ↦ elim own.lawful [
            | inl none ↦ absurd (Contains-nil node (subst (λ trip. Contains trip.nodes node) none c))
            | inr route ↦ let found = node_touched route.path.0 node c in (found.0, (own.same found.0).0 found.1, found.2)
          ]
        ]

    pub is_run_now : Run net a.run
    is_run_now = record {
      complete = a.complete;
      lawful = lawful;
      apart = λ one other differ side c d.
          let first = touching one (Hexside side) c in
          let second = touching other (Hexside side) d in
          (a.each one (inside first.0 one first.1)).apart side first.0 second.0 other differ first.1 second.1 first.2 second.2;
    }

    uses_own : (train link : ℕ) → Uses a.run train link → fate_of fates link ≡ Of train
    uses_own train link uses =
        elim (trip_at train) [
          | inl none ↦ absurd (Contains-nil link (subst (λ trip. Contains trip.links link) none uses))
          | inr own ↦ (own.same link).0 uses
        ]

    pub keeps_now : Keeps fates a.run
    keeps_now = record {
      within = λ train link uses. subst (λ fate. Allows fate train) (sym (uses_own train link uses)) refl;
      all_own = λ train link owned. ((a.each train (inside link train owned)).same link).1 owned;
    }

    earned_is : sum_by (worth net) all ≡ earned net a.run
    unfolding earned
    earned_is = ap (sum_by (worth net)) a.counted ∙ sum_by-map (worth net) (λ (trip : Trip). centres trip.nodes) a.run

    pub full_decided : (claim : ℕ) (left : Option ℕ) → MatchOption left (claim < sum_by (worth net) all) (λ rest. rest + sum_by (worth net) all ≡ claim) → Decides (is_some left) (IsFull net claim fates)
    full_decided claim None over =
        Decides-never (λ full. let most : earned net a.run ≤ claim = (full_one net claim fates decided a.run is_run_now keeps_now).0 full in omega (arith, most, over, earned_is))
    full_decided claim (Some rest) within =
        let most : earned net a.run ≤ claim = omega (arith, within, earned_is) in
        Decides-always ((full_one net claim fates decided a.run is_run_now keeps_now).1 most)

  pub none_full : (claim : ℕ) → AllDecided fates → NoRunKeeps net fates → Decides true (IsFull net claim fates)
  none_full claim decided none = Decides-always (full_none net claim fates decided (none decided))
