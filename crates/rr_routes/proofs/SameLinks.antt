-- Paths over the same links are worth the same.
use Rattle.std.proofs.Common.{◌≡◌, ◌≢◌, ℕ, ◌≤◌, ◌↔◌, List, [], ◌∷◌, refl, ap, sym, subst, inl, inr, arith}
use Rattle.std.specs.List.{Contains}
use Rattle.rr_routes.specs.declared.net.Node.{Node}
use Rattle.rr_routes.specs.declared.net.Node.TheVariants.{Centre}
use Rattle.rr_routes.specs.declared.certificate.Fate.{Fate}
use Rattle.rr_routes.specs.declared.certificate.Fate.TheVariants.{Open, Denied, Of}
use Rattle.rr_routes.specs.Net.{Net, Touches, value}
use Rattle.rr_routes.specs.Routes.{Walk, one_link, goes_on, Path, Trip, no_trip, trip_of, centres, Run, worth, earned}
use Rattle.rr_routes.specs.Certificates.{fate_of, Allows, Uses, Keeps, IsFull}
use Rattle.rr_routes.proofs.Elements.{Contains-here, Contains-there, Contains-cases, Contains-single, sum_within, sum_same, sum_by-pointwise}
use Rattle.rr_routes.proofs.Walks.{Joins-at_from, Joins-at_to, Walk-touched, centres-Contains, Contains-centres, NoneTwice-centres}
use Rattle.rr_routes.proofs.Fates.{Uses-Route}

-- each node of a walk is touched by a link of it
node_touched : (net : Net) {links : List ℕ} {nodes : List Node} → Walk net links nodes → (node : Node) → Contains nodes node
    → (link : ℕ) × Contains links link × Touches net link node
node_touched net (one_link link from to joins) node c =
    elim (Contains-cases from (to ∷ []) node c) [
      | inl is ↦ (link, Contains-here link [], subst (λ n. Touches net link n) is (Joins-at_from net link from to joins))
      | inr later ↦ (link, Contains-here link [], subst (λ n. Touches net link n) (Contains-single to node later) (Joins-at_to net link from to joins))
    ]
node_touched net (goes_on first next links from to nodes joins passes rest) node c =
    elim (Contains-cases from (to ∷ nodes) node c) [
      | inl is ↦ (first, Contains-here first (next ∷ links), subst (λ n. Touches net first n) is (Joins-at_from net first from to joins))
      | inr later ↦
          let found = node_touched net rest node later in
          (found.0, Contains-there first (next ∷ links) found.0 found.1, found.2)
    ]

-- the nodes of a walk are among those of one that has all its links
nodes_within : (net : Net) (one other : Trip) → Walk net one.links one.nodes → Walk net other.links other.nodes
    → ((link : ℕ) → Contains one.links link → Contains other.links link) → (node : Node) → Contains one.nodes node → Contains other.nodes node
nodes_within net one other walk also all node c =
    let found = node_touched net walk node c in
    Walk-touched net also found.0 node (all found.0 found.1) found.2

centres_within : (net : Net) (one other : Trip) → Walk net one.links one.nodes → Walk net other.links other.nodes
    → ((link : ℕ) → Contains one.links link → Contains other.links link) → (centre : ℕ) → Contains (centres one.nodes) centre → Contains (centres other.nodes) centre
centres_within net one other walk also all centre c =
    Contains-centres other.nodes centre (nodes_within net one other walk also all (Centre centre) (centres-Contains one.nodes centre c))

pub same_worth : (net : Net) (one other : Trip) → Path net one.links one.nodes → Path net other.links other.nodes
    → ((link : ℕ) → Contains one.links link ↔ Contains other.links link) → worth net (centres one.nodes) ≡ worth net (centres other.nodes)
same_worth net one other path also same =
    sum_same (value net) (centres one.nodes) (centres other.nodes) (NoneTwice-centres one.nodes path.1) (NoneTwice-centres other.nodes also.1)
    (centres_within net one other path.0 also.0 (λ link. (same link).0)) (centres_within net other one also.0 path.0 (λ link. (same link).1))

-- a decided link that the train may use is its own
own_fate : (fate : Fate) (train : ℕ) → fate ≢ Open → Allows fate train → fate ≡ Of train
own_fate Open train decided allowed = absurd (decided refl)
own_fate Denied train decided allowed = absurd allowed
own_fate (Of owner) train decided allowed = ap Of allowed

module _ (net : Net) (fates : List Fate) (decided : (link : ℕ) → fate_of fates link ≢ Open) (run other : List Trip) (is_run : Run net run)
    (keeps : Keeps fates run) (also_run : Run net other) (also_keeps : Keeps fates other) where
  also_uses : (train link : ℕ) → Uses run train link → Uses other train link
  also_uses train link uses =
      also_keeps.all_own train link (own_fate (fate_of fates link) train (decided link) (keeps.within train link uses))

  trip_below : (train : ℕ) → worth net (centres (trip_of run train).nodes) ≤ worth net (centres (trip_of other train).nodes)
  trip_below train =
      elim (is_run.lawful train) [
        | inl none ↦ subst (λ trip. worth net (centres trip.nodes) ≤ worth net (centres (trip_of other train).nodes)) (sym none) (omega arith)
        | inr route ↦
            let found = node_touched net route.path.0 route.token.0 route.token.1 in
            let second = Uses-Route net other also_run train found.0 (also_uses train found.0 found.1) in
            sum_within (value net) (centres (trip_of run train).nodes) (centres (trip_of other train).nodes) (NoneTwice-centres (trip_of run train).nodes route.path.1)
            (λ centre c. inl (centres_within net (trip_of run train) (trip_of other train) route.path.0 second.path.0 (also_uses train) centre c))
      ]

  earned_below : earned net run ≤ earned net other
  unfolding earned
  earned_below =
      sum_by-pointwise (λ trip. worth net (centres trip.nodes)) run other no_trip (omega (arith, is_run.complete, also_run.complete))
      (λ train in'. trip_below train)

pub same_earned : (net : Net) (fates : List Fate) → ((link : ℕ) → fate_of fates link ≢ Open) → (run other : List Trip) → Run net run → Keeps fates run
    → Run net other → Keeps fates other → earned net run ≡ earned net other
same_earned net fates decided run other is_run keeps also_run also_keeps =
    let up = earned_below net fates decided run other is_run keeps also_run also_keeps in
    let down = earned_below net fates decided other run also_run also_keeps is_run keeps in
    omega (arith, up, down)

pub full_none : (net : Net) (claim : ℕ) (fates : List Fate) → ((link : ℕ) → fate_of fates link ≢ Open)
    → ((run : List Trip) → Run net run → Keeps fates run → ⊥) → IsFull net claim fates
full_none net claim fates decided none =
    record {
      decided = decided;
      most = λ run is_run keeps. absurd (none run is_run keeps);
    }

pub full_one : (net : Net) (claim : ℕ) (fates : List Fate) → ((link : ℕ) → fate_of fates link ≢ Open)
    → (run : List Trip) → Run net run → Keeps fates run → IsFull net claim fates ↔ (earned net run ≤ claim)
full_one net claim fates decided run is_run keeps = (
  λ full. full.most run is_run keeps,
  λ enough. record {
    decided = decided;
    most = λ other also also_keeps.
        subst (λ sum. sum ≤ claim) (same_earned net fates decided run other is_run keeps also also_keeps) enough;
  },
)
