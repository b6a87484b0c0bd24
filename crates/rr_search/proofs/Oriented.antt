-- The sheet of a run is legal, with each route written in the direction that begins with the lower number.
use Rattle.std.proofs.Common.{◌≡◌, ◌≢◌, ℕ, zero, suc, ◌+◌, ◌-◌, ◌<◌, ◌≤◌, ◌⊎◌, Bool, true, false, if◌then◌else◌, Option, None, Some, List, [], ◌∷◌, length, ltb, get_or, map, reverse, refl, sym, ◌∙◌, ap, subst, inl, inr, arith}
use Rattle.std.specs.List.{Contains, slice_get}
use Rattle.std.proofs.lemmas.Bool.{cases_lt}
use Rattle.std.proofs.lemmas.Bool.Decides.{Decides-ltb}
use Rattle.std.proofs.lemmas.Option.{slice_get_within, get_or_from_slice_get}
use Rattle.std.proofs.lemmas.List.{get_or_past, length-map, length-reverse, get_or-map, get_or-reverse}
use Rattle.rr_roster.specs.declared.company.Kind.{Kind}
use Rattle.rr_routes.specs.declared.net.CentreLimit.{CentreLimit}
use Rattle.rr_routes.specs.declared.net.Node.{Node}
use Rattle.rr_routes.specs.declared.net.Node.TheVariants.{Hexside}
use Rattle.rr_routes.specs.declared.certificate.Fate.{Fate}
use Rattle.rr_routes.specs.Net.{Net, limit_of}
use Rattle.rr_routes.specs.Routes.{Trip, no_trip, trip_of, Route, Run, centres, earned}
use Rattle.rr_checker.specs.declared.trips.Journey.{Journey}
use Rattle.rr_checker.proofs.StepLemmas.{yes, no}
use Rattle.rr_checker.proofs.FullLemmas.{is_run_now}
use Rattle.rr_routes.specs.declared.sheets.sheet.TrainWord.{TrainWord}
use Rattle.rr_books.specs.declared.clause.Clause.{Clause}
use Rattle.rr_referee.specs.Sheets.{Ascends, IsWordOf, IsSheetOf, IsLegal, Breaks}
use Rattle.rr_referee.proofs.LawLemmas.{none_broken}
use Rattle.rr_search.specs.Found.{AreKinds, AreOwnTrips, IsSheetFor, trip_along}
use Rattle.rr_search.specs.Orientation.{reversed, is_backward, ascending, oriented}
use Rattle.rr_search.specs.Whole.{IsDecidedTo}
use Rattle.rr_search.proofs.FoundLemmas.{missing}
use Rattle.rr_search.proofs.Reversal.{first_of, last_of, reverse_is, Contains-reverse, Route-reversed, Route-ends_differ}
use Rattle.rr_search.proofs.WholeLemmas.{decided_all}

first_at : (xs : List ℕ) → first_of 0 xs ≡ get_or xs 0 0
first_at [] = refl
first_at (x ∷ xs) = refl

last_at : (x : ℕ) (xs : List ℕ) → last_of x xs ≡ get_or (x ∷ xs) (length xs) 0
last_at x [] = refl
last_at x (y ∷ ys) = last_at y ys

last_of_all : (xs : List ℕ) → last_of 0 xs ≡ get_or xs (length xs - 1) 0
last_of_all [] = refl
last_of_all (x ∷ xs) =
    let place : length xs ≡ suc (length xs) - 1 = omega arith in last_at x xs ∙ ap (λ n. get_or (x ∷ xs) n 0) place

-- a list whose ends differ ascends in one of its directions
ascends_so : (x : ℕ) (xs : List ℕ) (first last : ℕ) → first ≡ get_or (x ∷ xs) 0 0 → last ≡ get_or (x ∷ xs) (length (x ∷ xs) - 1) 0 → (first ≡ last → ⊥) → (b : Bool)
    → b ≡ ltb last first → Ascends (if b then reverse (x ∷ xs) else (x ∷ xs))
ascends_so x xs first last is_first is_last differ true test =
    let below : last < first = yes (Decides-ltb last first) (sym test) in
    let front : get_or (reverse (x ∷ xs)) 0 0 ≡ get_or (x ∷ xs) (length (x ∷ xs) - 1 - 0) 0 = get_or-reverse (x ∷ xs) 0 0 (omega arith) in
    let end : get_or (reverse (x ∷ xs)) (length (x ∷ xs) - 1) 0 ≡ get_or (x ∷ xs) (length (x ∷ xs) - 1 - (length (x ∷ xs) - 1)) 0 =
    get_or-reverse (x ∷ xs) (length (x ∷ xs) - 1) 0 (omega arith) in
    let same : length (x ∷ xs) - 1 - 0 ≡ length (x ∷ xs) - 1 = omega arith in
    let none : length (x ∷ xs) - 1 - (length (x ∷ xs) - 1) ≡ 0 = omega arith in
    let starts : get_or (reverse (x ∷ xs)) 0 0 ≡ last = front ∙ ap (λ n. get_or (x ∷ xs) n 0) same ∙ sym is_last in
    let stops : get_or (reverse (x ∷ xs)) (length (reverse (x ∷ xs)) - 1) 0 ≡ first =
    ap (λ n. get_or (reverse (x ∷ xs)) (n - 1) 0) (length-reverse (x ∷ xs)) ∙ end ∙ ap (λ n. get_or (x ∷ xs) n 0) none ∙ sym is_first in
    omega (arith, starts, stops, below)
ascends_so x xs first last is_first is_last differ false test =
    let above : last < first → ⊥ = no (Decides-ltb last first) (sym test) in
    let less : first < last = elim (cases_lt first last) [
      | inl less ↦ less
      | inr more ↦ elim (cases_lt last first) [ inl below ↦ absurd (above below) | inr most ↦ absurd (differ (omega arith)) ]
    ] in
    subst (λ n. n < get_or (x ∷ xs) (length (x ∷ xs) - 1) 0) is_first (subst (λ n. first < n) is_last less)

ascending_ascends : (links : List ℕ) → (first_of 0 links ≡ last_of 0 links → ⊥) → Ascends (ascending links)
ascending_ascends [] differ = absurd (differ refl)
ascending_ascends (x ∷ xs) differ =
    ascends_so x xs (get_or (x ∷ xs) 0 0) (get_or (x ∷ xs) (length (x ∷ xs) - 1) 0) refl refl
    (λ same. differ (first_at (x ∷ xs) ∙ same ∙ sym (last_of_all (x ∷ xs)))) (is_backward (x ∷ xs)) refl

oriented-links : (trip : Trip) → (oriented trip).links ≡ ascending trip.links
oriented-links trip =
    elim (is_backward trip.links) as (λ v. (if v then reversed trip else trip).links ≡ (if v then reverse trip.links else trip.links)) [ true ↦ refl | false ↦ refl ]

oriented-nodes : (trip : Trip) (node : Node) → Contains (oriented trip).nodes node → Contains trip.nodes node
oriented-nodes trip node =
    elim (is_backward trip.links) as (λ v. Contains (if v then reversed trip else trip).nodes node → Contains trip.nodes node) [
      | true ↦ λ c. Contains-reverse trip.nodes node (subst (λ (ns : List Node). Contains ns node) (reverse_is trip.nodes) c)
      | false ↦ λ c. c
    ]

module _ (net : Net) where
  Route-oriented : (limit : CentreLimit) (trip : Trip) → Route net limit trip → Route net limit (oriented trip)
  Route-oriented limit trip route =
      elim (is_backward trip.links) as (λ v. Route net limit (if v then reversed trip else trip)) [
        | true ↦ Route-reversed net limit trip route
        | false ↦ route
      ]

  oriented_at : (run : List Trip) (train : ℕ) → trip_of (map oriented run) train ≡ oriented (trip_of run train)
  oriented_at run train =
      elim (cases_lt train (length run)) [
        | inl inside ↦ get_or-map oriented run train no_trip no_trip inside
        | inr past ↦ get_or_past (map oriented run) train no_trip (let many = length-map run oriented in omega (arith, many, past))
            ∙ ap oriented (sym (get_or_past run train no_trip past))
      ]

  Run-oriented : (run : List Trip) → Run net run → Run net (map oriented run)
  Run-oriented run is_run = record {
    complete = length-map run oriented ∙ is_run.complete;
    lawful = λ train. elim (is_run.lawful train) [
      | inl none ↦ inl (oriented_at run train ∙ ap oriented none)
      | inr route ↦ inr (subst (λ trip. Route net (limit_of net train) trip) (sym (oriented_at run train)) (Route-oriented (limit_of net train) (trip_of run train) route))
    ];
    apart = λ one other differ side c d.
        is_run.apart one other differ side
        (oriented-nodes (trip_of run one) (Hexside side) (subst (λ (trip : Trip). Contains trip.nodes (Hexside side)) (oriented_at run one) c))
        (oriented-nodes (trip_of run other) (Hexside side) (subst (λ (trip : Trip). Contains trip.nodes (Hexside side)) (oriented_at run other) d));
  }

  module _ (kinds : List Kind) (fates : List Fate) (journeys : List Journey) (sheet : List TrainWord) (are_kinds : AreKinds net kinds)
      (d : IsDecidedTo net fates (length net.links)) (own : AreOwnTrips net fates (length net.trains) (map trip_along journeys))
      (is_for : IsSheetFor kinds journeys (length kinds) sheet) where
    run_now : Run net (map trip_along journeys)
    run_now =
        is_run_now net fates (map (λ (trip : Trip). centres trip.nodes) (map trip_along journeys))
        (record { run = map trip_along journeys; complete = own.complete; each = own.each; counted = refl }) (decided_all net fates d) d.owned

    many : length journeys ≡ length net.trains
    many = let one = own.complete in let two = length-map journeys trip_along in omega (arith, one, two)

    word_of : (train : ℕ) (word : TrainWord) → slice_get sheet train ≡ Some word → (kind : Option Kind) → slice_get kinds train ≡ kind
        → (found : Option Journey) → slice_get journeys train ≡ found → IsWordOf (limit_of net train) word (oriented (trip_of (map trip_along journeys) train))
    word_of train word at None none found is =
        absurd (missing kinds train (let inside = slice_get_within sheet train word at in let all = is_for.complete in omega (arith, inside, all)) none)
    word_of train word at (Some kind) of None none =
        absurd (missing journeys train (let inside = slice_get_within sheet train word at in let all = is_for.complete in let two = are_kinds.complete in omega (arith, inside, all, two, many)) none)
    word_of train word at (Some kind) of (Some journey) is =
        let named = is_for.each train kind journey word of is at in
        let inside : train < length journeys = slice_get_within journeys train journey is in
        let trip_is : trip_of (map trip_along journeys) train ≡ trip_along journey =
        get_or-map trip_along journeys train journey no_trip inside ∙ ap trip_along (get_or_from_slice_get journeys train journey journey is) in
        subst (λ trip. IsWordOf (limit_of net train) word (oriented trip)) (sym trip_is) (record {
          kind = ap Rattle.rr_referee.specs.Sheets.limit_of_kind named.0 ∙ are_kinds.each train kind of;
          numbers = named.1 ∙ ap (map suc) (sym (oriented-links (trip_along journey)));
          direction = elim (run_now.lawful train) [
            | inl none ↦ inl (ap (λ (trip : Trip). (oriented trip).links) (sym trip_is ∙ none))
            | inr route ↦ inr (subst Ascends (sym (oriented-links (trip_along journey)))
                (ascending_ascends journey.links.items (λ same. Route-ends_differ net (limit_of net train) (trip_along journey)
                (subst (λ trip. Route net (limit_of net train) trip) trip_is route) same)))
          ];
        })

    legal_now : IsLegal net sheet (earned net (map oriented (map trip_along journeys)))
    legal_now = record {
      run = map oriented (map trip_along journeys);
      is_run = Run-oriented (map trip_along journeys) run_now;
      is_sheet = record {
        complete = (let all = is_for.complete in let two = are_kinds.complete in let three = length-map (map trip_along journeys) oriented in let four = own.complete in
            omega (arith, all, two, three, four));
        each = λ train word at. subst (λ trip. IsWordOf (limit_of net train) word trip) (sym (oriented_at (map trip_along journeys) train))
            (word_of train word at (slice_get kinds train) refl (slice_get journeys train) refl);
      };
      earns = refl;
    }

    -- the sheet breaks no clause
    pub none_refused : (clause : Clause) → Breaks net sheet clause → ⊥
    none_refused clause breaks = none_broken net sheet (earned net (map oriented (map trip_along journeys))) clause legal_now breaks
