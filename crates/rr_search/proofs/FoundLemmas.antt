-- What a search has found.
use Rattle.std.proofs.Common.{◌≡◌, ◌≢◌, ℕ, zero, suc, ◌+◌, ◌-◌, ◌^◌, ◌<◌, ◌≤◌, ◌⊎◌, Bool, true, false, if◌then◌else◌, Option, None, Some, List, [], ◌∷◌, ◌++◌, length, get_or, map, replicate, reverse, refl, sym, ◌∙◌, ap, subst, inl, inr, arith}
use Rattle.std.specs.List.{Contains, slice_get}
use Rattle.std.specs.Option.{MatchOption}
use Rattle.std.proofs.lemmas.Bool.{cases_eq, cases_lt}
use Rattle.std.proofs.lemmas.Option.{slice_get-get_or, slice_get_within, get_or_from_slice_get}
use Rattle.std.proofs.lemmas.List.{get_or_past, get_or-replicate, length-replicate, get_or_append_left, get_or_push, length_push, length-map, map-append, get_or-map}
use Rattle.std.proofs.lemmas.List.Elements.{Contains-get_or}
use Rattle.rr_roster.specs.declared.company.Kind.{Kind}
use Rattle.rr_routes.specs.declared.net.CentreLimit.{CentreLimit}
use Rattle.rr_routes.specs.declared.net.CentreLimit.TheVariants.{AtMost, Unlimited}
use Rattle.rr_routes.specs.declared.net.Link.{Link}
use Rattle.rr_routes.specs.declared.net.Node.TheVariants.{Hexside}
use Rattle.rr_routes.specs.declared.certificate.Fate.{Fate}
use Rattle.rr_routes.specs.declared.certificate.Fate.TheVariants.{Open, Denied, Of}
use Rattle.rr_routes.specs.Net.{Net, limit_of}
use Rattle.rr_routes.specs.Routes.{Trip, no_trip, trip_of, Run, earned}
use Rattle.rr_routes.specs.declared.certificate.CertTree.{CertTree}
use Rattle.rr_routes.specs.declared.certificate.TheConstants.{MOST_NODES}
use Rattle.rr_routes.specs.Certificates.{fate_of, Allows, Uses, Keeps, all_open, Accepts, node_count}
use Rattle.rr_routes.proofs.Fates.{Keeps-all_open}
use Rattle.rr_routes.proofs.Elements.{Contains-nil}
use Rattle.rr_routes.proofs.SameLinks.{same_earned}
use Rattle.rr_checker.specs.declared.trips.Journey.{Journey}
use Rattle.rr_checker.specs.Own.{is_of, is_others, AreLinksWith, is_shared}
use Rattle.rr_checker.specs.Runs.{IsOwnTrip, NoRunKeeps}
use Rattle.rr_checker.specs.Trips.{IsTripOver}
use Rattle.rr_checker.proofs.FullLemmas.{shared_none, no_journey, own_trip}
use Rattle.rr_routes.specs.declared.sheets.sheet.TrainWord.{TrainWord}
use Rattle.rr_referee.specs.Sheets.{IsLegal, IsSheetOf, limit_of_kind}
use Rattle.rr_search.specs.declared.found.Found.{Found}
use Rattle.rr_search.specs.Found.{IsCertified, AreKinds, AreOwnTrips, HasNoSheet, IsSheetFor, IsSound, EarnsAtLeast, IsBestUnder, trip_along}
use Rattle.rr_search.specs.Orientation.{is_backward, ascending}
use Rattle.rr_search.specs.Whole.{whole_size, IsDecidedTo, ShowsFrom}
use Rattle.rr_search.proofs.Reversal.{Contains-ascending, ascending-Contains}
use Rattle.rr_search.proofs.WholeLemmas.{decided_none, decided_all}

-- what stands inside a list isn't missing
pub missing : {X : Type 0} (xs : List X) (k : ℕ) → k < length xs → slice_get xs k ≡ None → ⊥
missing [] k less at = omega arith
missing (x ∷ xs) zero less at = cc
missing (x ∷ xs) (suc k) less at = missing xs k (omega arith) at

-- where a train is of no kind, no sheet is legal
pub no_sheet : (net : Net) (train : ℕ) (limit : CentreLimit) → train < length net.trains → limit ≡ limit_of net train
    → ((kind : Kind) → limit_of_kind kind ≡ limit → ⊥) → HasNoSheet net
no_sheet net train limit inside is none sheet revenue legal =
    word_at (slice_get sheet train) refl
  where
    enough : train < length sheet
    enough = let one = legal.is_sheet.complete in let two = legal.is_run.complete in omega (arith, one, two)

    word_at : (found : Option TrainWord) → slice_get sheet train ≡ found → ⊥
    word_at None at = missing sheet train enough at
    word_at (Some word) at = none word.kind ((legal.is_sheet.each train word at).kind ∙ sym is)

pub kind_told : (net : Net) (train : ℕ) (limit : CentreLimit) → train < length net.trains → limit ≡ limit_of net train → (found : Option Kind)
    → MatchOption found ((kind : Kind) → limit_of_kind kind ≡ limit → ⊥) (λ kind. limit_of_kind kind ≡ limit)
    → MatchOption found (HasNoSheet net) (λ kind. limit_of_kind kind ≡ limit_of net train)
kind_told net train limit inside is None none = no_sheet net train limit inside is none
kind_told net train limit inside is (Some kind) of = of ∙ is

-- one more journey over the train's own links
pub own_next : (net : Net) (fates : List Fate) (n : ℕ) (journeys new : List Journey) (journey : Journey) → AreOwnTrips net fates n (map trip_along journeys)
    → IsOwnTrip net fates n (trip_along journey) → new ≡ journeys ++ journey ∷ [] → AreOwnTrips net fates (n + 1) (map trip_along new)
own_next net fates n journeys new journey so_far on pushed =
    subst (λ (run : List Trip). AreOwnTrips net fates (n + 1) run)
    (sym (ap (λ (js : List Journey). map trip_along js) pushed ∙ map-append trip_along journeys (journey ∷ []))) (record {
      complete = (let one = so_far.complete in let two = length_push (map trip_along journeys) (trip_along journey) in omega (arith, one, two));
      each = λ train less. elim (cases_eq train n) [
        | inl same ↦ subst (λ t. IsOwnTrip net fates t (trip_of (map trip_along journeys ++ trip_along journey ∷ []) t)) (sym same)
            (subst (λ trip. IsOwnTrip net fates n trip) (sym (get_or_push (map trip_along journeys) (trip_along journey) no_trip n so_far.complete)) on)
        | inr differ ↦ subst (λ trip. IsOwnTrip net fates train trip)
            (sym (get_or_append_left (map trip_along journeys) (trip_along journey ∷ []) no_trip train (let one = so_far.complete in omega (arith, one, less, differ))))
            (so_far.each train (omega arith))
      ];
    })

-- the journey over the train's own links, if none is shared
pub own_told : (net : Net) (fates : List Fate) (train : ℕ) (own others : List ℕ) → AreLinksWith (is_of train) fates own → AreLinksWith (is_others train) fates others
    → is_shared net own others ≡ false → (found : Option Journey)
    → MatchOption found ((trip : Trip) → IsTripOver net (limit_of net train) own trip → ⊥) (λ journey. IsTripOver net (limit_of net train) own (trip_along journey))
    → MatchOption found (NoRunKeeps net fates) (λ journey. IsOwnTrip net fates train (trip_along journey))
own_told net fates train own others mine theirs apart None none = no_journey net fates train own others mine theirs none
own_told net fates train own others mine theirs apart (Some journey) over = own_trip net fates train own others mine theirs (trip_along journey) over apart

-- one more word
pub sheet_next : (kinds : List Kind) (journeys : List Journey) (count : ℕ) (sheet new : List TrainWord) (kind : Kind) (journey : Journey) (word : TrainWord)
    → IsSheetFor kinds journeys count sheet → new ≡ sheet ++ word ∷ [] → slice_get kinds count ≡ Some kind → slice_get journeys count ≡ Some journey
    → word.kind ≡ kind → word.links ≡ map suc (ascending journey.links.items) → IsSheetFor kinds journeys (count + 1) new
sheet_next kinds journeys count sheet new kind journey word so_far pushed kind_at journey_at is_kind is_links =
    subst (λ (words : List TrainWord). IsSheetFor kinds journeys (count + 1) words) (sym pushed) (record {
      complete = (let one = so_far.complete in let two = length_push sheet word in omega (arith, one, two));
      each = λ train k j w at_kind at_journey at_word. elim (cases_eq train count) [
        | inl same ↦
            let one : Some kind ≡ Some k = sym kind_at ∙ ap (λ t. slice_get kinds t) (sym same) ∙ at_kind in
            let two : Some journey ≡ Some j = sym journey_at ∙ ap (λ t. slice_get journeys t) (sym same) ∙ at_journey in
            let same_kind : kind ≡ k = cc in
            let same_journey : journey ≡ j = cc in
            let last : word ≡ w = sym (get_or_push sheet word w count so_far.complete) ∙ ap (λ t. get_or (sheet ++ word ∷ []) t w) (sym same)
            ∙ get_or_from_slice_get (sheet ++ word ∷ []) train w w at_word in (
              ap (λ (x : TrainWord). x.kind) (sym last) ∙ is_kind ∙ same_kind,
              ap (λ (x : TrainWord). x.links) (sym last) ∙ is_links ∙ ap (λ (x : Journey). map suc (ascending x.links.items)) same_journey,
            )
        | inr differ ↦
            let within : train < length (sheet ++ word ∷ []) = slice_get_within (sheet ++ word ∷ []) train w at_word in
            let before : train < length sheet = (let one = so_far.complete in let two = length_push sheet word in omega (arith, one, two, within, differ)) in
            so_far.each train k j w at_kind at_journey
            (slice_get-get_or sheet train w before
            ∙ ap Some (sym (get_or_append_left sheet (word ∷ []) w train before) ∙ get_or_from_slice_get (sheet ++ word ∷ []) train w w at_word))
      ];
    })

-- trains that stay are a run
abbrev pub staying : Net → List Trip
staying net = replicate (length net.trains) no_trip

stays : (net : Net) (train : ℕ) → trip_of (staying net) train ≡ no_trip
stays net train =
    elim (cases_lt train (length net.trains)) [
      | inl inside ↦ get_or-replicate (length net.trains) train no_trip no_trip inside
      | inr past ↦ get_or_past (staying net) train no_trip (omega (arith, length-replicate (length net.trains) no_trip))
    ]

pub staying_runs : (net : Net) → Run net (staying net)
staying_runs net = record {
  complete = length-replicate (length net.trains) no_trip;
  lawful = λ train. inl (stays net train);
  apart = λ one other differ side c d. Contains-nil (Hexside side) (subst (λ (trip : Trip). Contains trip.nodes (Hexside side)) (stays net one) c);
}

map-suc-same : (xs ys : List ℕ) → map suc xs ≡ map suc ys → xs ≡ ys
map-suc-same [] [] e = refl
map-suc-same [] (y ∷ ys) e = cc
map-suc-same (x ∷ xs) [] e = cc
map-suc-same (x ∷ xs) (y ∷ ys) e =
    let first : suc x ≡ suc y = cc in
    let rest : map suc xs ≡ map suc ys = cc in
    let heads : x ≡ y = omega arith in
    let tails = map-suc-same xs ys rest in cc

-- a decided link that the train may use is its own
own_fate : (fate : Fate) (train : ℕ) → fate ≢ Open → Allows fate train → fate ≡ Of train
own_fate Open train decided allowed = absurd (decided refl)
own_fate Denied train decided allowed = absurd allowed
own_fate (Of owner) train decided allowed = ap Of allowed

module _ (net : Net) (kinds : List Kind) (fates : List Fate) (journeys : List Journey) (sheet : List TrainWord) (are_kinds : AreKinds net kinds)
    (d : IsDecidedTo net fates (length net.links)) (own : AreOwnTrips net fates (length net.trains) (map trip_along journeys))
    (is_for : IsSheetFor kinds journeys (length kinds) sheet) where
  as_many : length journeys ≡ length net.trains
  as_many = let one = own.complete in let two = length-map journeys trip_along in omega (arith, one, two)

  -- a run of the sheet goes over each train's own links, and no others
  module _ (run : List Trip) (is_run : Run net run) (is_sheet : IsSheetOf net sheet run) where
    same_links : (train : ℕ) → train < length net.trains → (journey : Journey) → slice_get journeys train ≡ Some journey
        → (trip_of run train).links ≡ ascending journey.links.items
    same_links train inside journey at =
        named (slice_get sheet train) refl (slice_get kinds train) refl
      where
        many : length sheet ≡ length net.trains
        many = let one = is_for.complete in let two = are_kinds.complete in omega (arith, one, two)

        named : (found : Option TrainWord) → slice_get sheet train ≡ found → (kind : Option Kind) → slice_get kinds train ≡ kind
            → (trip_of run train).links ≡ ascending journey.links.items
        named None none kind is = absurd (missing sheet train (omega (arith, many, inside)) none)
        named (Some word) found None none = absurd (missing kinds train (let two = are_kinds.complete in omega (arith, two, inside)) none)
        named (Some word) found (Some kind) of =
            map-suc-same (trip_of run train).links (ascending journey.links.items)
            (sym (is_sheet.each train word found).numbers ∙ (is_for.each train kind journey word of at found).1)

    journey_at : (train : ℕ) → train < length net.trains → (journey : Journey) × (slice_get journeys train ≡ Some journey) × IsOwnTrip net fates train (trip_along journey)
    journey_at train inside =
        at (slice_get journeys train) refl
      where
        at : (found : Option Journey) → slice_get journeys train ≡ found → (journey : Journey) × (slice_get journeys train ≡ Some journey) × IsOwnTrip net fates train (trip_along journey)
        at None none = absurd (missing journeys train (omega (arith, as_many, inside)) none)
        at (Some journey) is = (
          journey,
          is,
          subst (λ trip. IsOwnTrip net fates train trip)
              (get_or-map trip_along journeys train journey no_trip (omega (arith, as_many, inside)) ∙ ap trip_along (get_or_from_slice_get journeys train journey journey is))
              (own.each train inside),
        )

    uses_own : (train link : ℕ) → Uses run train link → fate_of fates link ≡ Of train
    uses_own train link uses =
        elim (cases_lt train (length net.trains)) [
          | inl inside ↦
              let found = journey_at train inside in
              (found.2.same link).0 (ascending-Contains found.0.links.items link
              (subst (λ ls. Contains ls link) (same_links train inside found.0 found.1) uses))
          | inr past ↦
              let stays : trip_of run train ≡ no_trip = get_or_past run train no_trip (let one = is_run.complete in omega (arith, one, past)) in
              absurd (Contains-nil link (subst (λ (trip : Trip). Contains trip.links link) stays uses))
        ]

    sheet_keeps : Keeps fates run
    sheet_keeps = record {
      within = λ train link uses. subst (λ fate. Allows fate train) (sym (uses_own train link uses)) refl;
      all_own = λ train link owned.
          let inside = d.owned link train owned in
          let found = journey_at train inside in
          subst (λ ls. Contains ls link) (sym (same_links train inside found.0 found.1))
          (Contains-ascending found.0.links.items link ((found.2.same link).1 owned));
    }

  -- a legal sheet of just the trains' own links earns what every run that keeps the fates earns
  pub sheet_best : (found : Found) → found.sheet ≡ sheet → IsLegal net sheet found.revenue → IsBestUnder net fates None (Some found)
  sheet_best found is legal = record {
    sound = subst (λ words. IsLegal net words found.revenue) (sym is) legal;
    no_less = λ amount none. absurd none;
    most = λ run is_run keeps.
        let same = same_earned net fates (decided_all net fates d) run legal.run is_run keeps legal.is_run (sheet_keeps legal.run legal.is_run legal.is_sheet) in
        let earns = legal.earns in omega (arith, same, earns);
  }

-- the links of the journeys are links of the net
pub own_inside : (net : Net) (fates : List Fate) (journeys : List Journey) → IsDecidedTo net fates (length net.links)
    → AreOwnTrips net fates (length net.trains) (map trip_along journeys) → (way : Journey) (link : ℕ) → Contains journeys way → Contains way.links.items link → link < length net.links
own_inside net fates journeys d own way link at on =
    let many = length-map journeys trip_along in
    let all = own.complete in
    let inside : at.0 < length journeys = at.1 in
    let is : trip_of (map trip_along journeys) at.0 ≡ trip_along way = get_or-map trip_along journeys at.0 way no_trip inside ∙ ap trip_along at.2 in
    let mine : IsOwnTrip net fates at.0 (trip_along way) = subst (λ trip. IsOwnTrip net fates at.0 trip) is (own.each at.0 (omega (arith, many, all, inside))) in
    let owned : fate_of fates link ≡ Of at.0 = (mine.same link).0 on in
    elim (cases_lt link (length net.links)) [
      | inl within ↦ within
      | inr past ↦ let denied : fate_of fates link ≡ Denied = get_or_past fates link Denied (omega (arith, d.as_long)) in cc
    ]

-- something is found, since trains may stay
pub found_some : (net : Net) (fates : List Fate) → fates ≡ all_open net → IsBestUnder net fates None None → ⊥
found_some net fates opened best =
    best.most (staying net) (staying_runs net) (subst (λ (fs : List Fate). Keeps fs (staying net)) (sym opened) (Keeps-all_open net (staying net) (staying_runs net)))

-- the whole tree shows that none earns more than the best over its leaves
pub certified_by : (net : Net) (limit : ℕ) (fates : List Fate) → fates ≡ all_open net → (found : Found) (tree : CertTree) → IsBestUnder net fates None (Some found)
    → ShowsFrom net 0 tree → node_count tree ≡ whole_size (length net.trains) (length net.links - 0) → whole_size (length net.trains) (length net.links) ≤ limit → limit ≤ MOST_NODES
    → IsCertified net limit found.sheet tree
certified_by net limit fates opened found tree best shows counted fits small =
    let all : length net.links - 0 ≡ length net.links = omega arith in
    let nodes : node_count tree ≡ whole_size (length net.trains) (length net.links) = counted ∙ ap (whole_size (length net.trains)) all in
    record {
      revenue = found.revenue;
      legal = best.sound;
      accepted = record {
        small = omega (arith, nodes, fits, small);
        shown = shows found.revenue (all_open net) (decided_none net (all_open net) refl) (λ run is_run.
            best.most run is_run (subst (λ (fs : List Fate). Keeps fs run) (sym opened) (Keeps-all_open net run is_run)));
      };
      within = omega (arith, nodes, fits);
    }

-- the numbers of links fit
pub fits_at : (links items : List ℕ) → items ≡ ascending links → ((link : ℕ) → Contains links link → link + 1 < 2 ^ 64) → (i : ℕ) → i < length items
    → get_or items i 0 + 1 < 2 ^ 64
fits_at links items is all i inside =
    all (get_or items i 0) (ascending-Contains links (get_or items i 0) (subst (λ (xs : List ℕ). Contains xs (get_or items i 0)) is (Contains-get_or items i 0 inside)))
