-- An accepted certificate shows that no run earns more than its claim.
use Rattle.std.proofs.Common.{◌≡◌, ℕ, ◌<◌, ◌≤◌, List, [], ◌∷◌, length, get_or, map, refl, ap, sym, subst, ◌∙◌, ◌⊎◌, inl, inr, arith}
use Rattle.std.specs.List.{Contains}
use Rattle.std.proofs.lemmas.List.{length-map, get_or-map}
use Rattle.rr_routes.specs.declared.net.Node.TheVariants.{Hexside, Centre}
use Rattle.rr_routes.specs.declared.net.CentreLimit.{CentreLimit}
use Rattle.rr_routes.specs.declared.net.CentreLimit.TheVariants.{AtMost, Unlimited}
use Rattle.rr_routes.specs.declared.certificate.Fate.{Fate}
use Rattle.rr_routes.specs.declared.certificate.Fate.TheVariants.{Of}
use Rattle.rr_routes.specs.declared.certificate.CertTree.{CertTree, Bound, Bad, Full, Split', Row_of-CertTree, end_of-CertTree, more_of-CertTree}
use Rattle.rr_routes.specs.Net.{Net, Touches, limit_of, IsWithin}
use Rattle.rr_routes.specs.Routes.{Trip, no_trip, trip_of, centres, Route, Run, Optimal, worth, earned, NoneTwice}
use Rattle.rr_routes.specs.Certificates.{fate_of, MayUse, Keeps, Pick, IsBounded, IsBad, three_links, too_many_centres, not_reached, side_shared, choices, all_open, AcceptsUnder, AcceptsEach, Accepts}
use Rattle.rr_routes.proofs.Elements.{Contains-here, Contains-nil, All-contained, length_within, sum_by-map}
use Rattle.rr_routes.proofs.Walks.{Walk-touched, two_at_most, centres-Contains, Contains-centres, NoneTwice-centres}
use Rattle.rr_routes.proofs.Reaching.{AllReached, walk_reached}
use Rattle.rr_routes.proofs.Fates.{SomeOf, Uses-Route, Keeps-all_open, Keeps-chosen}

IsWithin-fewer : (limit : CentreLimit) (fewer count : ℕ) → fewer ≤ count → IsWithin limit count → IsWithin limit fewer
IsWithin-fewer (AtMost most) fewer count less within = omega arith
IsWithin-fewer Unlimited fewer count less within = tt

IsWithin-none : (limit : CentreLimit) → IsWithin limit 0
IsWithin-none (AtMost most) = omega arith
IsWithin-none Unlimited = tt

module _ (net : Net) (fates : List Fate) (run : List Trip) (is_run : Run net run) (keeps : Keeps fates run) where
  -- a train reaches all of its route over the links that it may use
  route_reached : (train : ℕ) → (route : Route net (limit_of net train) (trip_of run train))
      → AllReached net (MayUse fates train) (trip_of run train).links (trip_of run train).nodes
  route_reached train route =
      walk_reached net (MayUse fates train) route.path.0 route.no_terminal
      (All-contained (MayUse fates train) (trip_of run train).links (λ link uses. keeps.within train link uses))
      route.token.0 route.token.1 route.token.2

  -- the centres of a train's trip are a pick
  trip_pick : (train : ℕ) → Pick net fates train (centres (trip_of run train).nodes)
  trip_pick train =
      elim (is_run.lawful train) [
        | inl none ↦ subst (λ trip. Pick net fates train (centres trip.nodes)) (sym none) (record {
          none_twice = tt;
          counted = IsWithin-none (limit_of net train);
          reached = λ centre c. absurd (Contains-nil centre c);
        })
        | inr route ↦ record {
          none_twice = NoneTwice-centres (trip_of run train).nodes route.path.1;
          counted = route.counted;
          reached = λ centre c. (route_reached train route).each_node (Centre centre) (centres-Contains (trip_of run train).nodes centre c);
        }
      ]

  abbrev counted_by : Trip → List ℕ
  counted_by trip = centres trip.nodes

  -- what every pick keeps, the run keeps
  bounded : (claim : ℕ) → IsBounded net claim fates → earned net run ≤ claim
  unfolding earned
  bounded claim bound =
      subst (λ sum. sum ≤ claim) (sum_by-map (worth net) counted_by run)
      (bound (map counted_by run) (length-map run counted_by ∙ is_run.complete)
      (λ train in'. subst (λ pick. Pick net fates train pick)
      (sym (get_or-map counted_by run train no_trip [] (subst (λ n. train < n) (length-map run counted_by) in'))) (trip_pick train)))

  -- a train that has a bad link of its own runs nowhere
  few_centres : (train : ℕ) (touched : List ℕ) → NoneTwice touched
      → ((centre : ℕ) → Contains touched centre → (link : ℕ) × (fate_of fates link ≡ Of train) × Touches net link (Centre centre))
      → IsWithin (limit_of net train) (length touched)
  few_centres train [] none each = IsWithin-none (limit_of net train)
  few_centres train (first ∷ others) none each =
      let found = each first (Contains-here first others) in
      let route = Uses-Route net run is_run train found.0 (keeps.all_own train found.0 found.1) in
      let nodes = (trip_of run train).nodes in
      IsWithin-fewer (limit_of net train) (length (first ∷ others)) (length (centres nodes))
      (length_within (first ∷ others) (centres nodes) none (λ centre c.
      let touching = each centre c in
      Contains-centres nodes centre (Walk-touched net route.path.0 touching.0 (Centre centre) (keeps.all_own train touching.0 touching.1) touching.2)))
      route.counted

  never_bad : (train : ℕ) → IsBad net fates train → ⊥
  never_bad train (three_links node one two three not_two not_three nor own_one own_two own_three at_one at_two at_three) =
      let uses = keeps.all_own train one own_one in
      let route = Uses-Route net run is_run train one uses in
      elim (two_at_most net route.path.0 route.path.1 node one two three uses (keeps.all_own train two own_two) (keeps.all_own train three own_three) at_one at_two at_three) [
        | inl same ↦ not_two same
        | inr others ↦ elim others [ inl same ↦ not_three same | inr same ↦ nor same ]
      ]
  never_bad train (too_many_centres touched none each many) = many (few_centres train touched none each)
  never_bad train (not_reached link own none) =
      let uses = keeps.all_own train link own in
      none ((route_reached train (Uses-Route net run is_run train link uses)).each_link link uses)
  never_bad train (side_shared side link other owner differ own owned touches also) =
      let uses = keeps.all_own train link own in
      let second = keeps.all_own owner other owned in
      is_run.apart train owner differ side
      (Walk-touched net (Uses-Route net run is_run train link uses).path.0 link (Hexside side) uses touches)
      (Walk-touched net (Uses-Route net run is_run owner other second).path.0 other (Hexside side) second also)

mutual
  -- under fates that a run keeps, an accepted tree bounds what it earns
  bounds : (net : Net) (claim : ℕ) (fates : List Fate) (tree : CertTree) → AcceptsUnder net claim fates tree
      → (run : List Trip) → Run net run → Keeps fates run → earned net run ≤ claim
  bounds net claim fates Bound shown run is_run keeps = bounded net fates run is_run keeps claim shown
  bounds net claim fates (Bad train) shown run is_run keeps = absurd (never_bad net fates run is_run keeps train shown.1)
  bounds net claim fates Full shown run is_run keeps = shown.most run is_run keeps
  bounds net claim fates (Split' link shape children) shown run is_run keeps =
      bounds_each net claim fates link (choices net) children shown.1 run is_run (Keeps-chosen net run is_run fates keeps link shown.0)

  bounds_each : (net : Net) (claim : ℕ) (fates : List Fate) (link : ℕ) (choices : List Fate) → {m : _} (children : Row_of-CertTree m)
      → AcceptsEach net claim fates link choices children
      → (run : List Trip) → Run net run → SomeOf (λ choice. Keeps (Rattle.std.proofs.Common.set fates link choice) run) choices → earned net run ≤ claim
  bounds_each net claim fates link [] end_of-CertTree shown run is_run some = absurd some
  bounds_each net claim fates link [] (more_of-CertTree child children) shown run is_run some = absurd some
  bounds_each net claim fates link (choice ∷ rest) end_of-CertTree shown run is_run some = absurd shown
  bounds_each net claim fates link (choice ∷ rest) (more_of-CertTree child children) shown run is_run (inl keeps) =
      bounds net claim (Rattle.std.proofs.Common.set fates link choice) child shown.0 run is_run keeps
  bounds_each net claim fates link (choice ∷ rest) (more_of-CertTree child children) shown run is_run (inr later) =
      bounds_each net claim fates link rest children shown.1 run is_run later

pub accepted_most : (net : Net) (claim : ℕ) (tree : CertTree) → Accepts net claim tree → (run : List Trip) → Run net run → earned net run ≤ claim
accepted_most net claim tree accepted run is_run =
    bounds net claim (all_open net) tree accepted.shown run is_run (Keeps-all_open net run is_run)

pub accepted_optimal : (net : Net) (claim : ℕ) (tree : CertTree) → Accepts net claim tree → (run : List Trip) → Run net run → earned net run ≡ claim
    → Optimal net run
accepted_optimal net claim tree accepted run is_run earns =
    record {
      is_run = is_run;
      most = λ other also. subst (λ sum. earned net other ≤ sum) (sym earns) (accepted_most net claim tree accepted other also);
    }
