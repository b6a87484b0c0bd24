-- A legal sheet is that of one run, and breaks nothing.
use Rattle.std.proofs.Common.{◌≡◌, ℕ, zero, suc, ◌-◌, ◌<◌, ◌≤◌, ◌⊎◌, Option, None, Some, List, [], ◌∷◌, length, map, refl, sym, ◌∙◌, ap, subst, inl, inr, arith}
use Rattle.std.specs.Bool.{⊤}
use Rattle.std.specs.List.{Contains, slice_get}
use Rattle.std.proofs.lemmas.Bool.{cases_eq, cases_lt}
use Rattle.std.proofs.lemmas.List.{get_or_default, same_lists}
use Rattle.std.proofs.lemmas.Option.{none-some}
use Rattle.rr_routes.specs.declared.net.CentreLimit.{CentreLimit}
use Rattle.rr_routes.specs.declared.net.Node.{Node}
use Rattle.rr_routes.specs.declared.certificate.CertTree.{CertTree}
use Rattle.rr_routes.specs.Net.{Net, IsWithin, limit_of}
use Rattle.rr_routes.specs.Routes.{Walk, one_link, goes_on, NoneTwice, NoTerminalInside, centres, Trip, no_trip, trip_of, Route, Run, Optimal}
use Rattle.rr_routes.specs.Certificates.{Accepts}
use Rattle.rr_routes.proofs.Elements.{Contains-here, Contains-there, Contains-cases, Contains-nil}
use Rattle.rr_routes.proofs.Optimality.{accepted_most, accepted_optimal}
use Rattle.rr_routes.proofs.Walks.{Walk-in_net}
use Rattle.rr_routes.specs.declared.sheets.sheet.TrainWord.{TrainWord}
use Rattle.rr_books.specs.declared.clause.Clause.{Clause}
use Rattle.rr_books.specs.declared.clause.Clause.TheVariants.{NoWalk, NodeTwice, TerminalInside, NoToken, TooManyCentres}
use Rattle.rr_referee.specs.Sheets.{AreApart, AreLawful, Ascends, Asks, Breaks, at_train, left_over, shared, BreaksWord, missing, another, no_route, Course, IsFirstBroken, IsItsWord, IsLegal, IsSheetOf, IsWordOf, links_of, route_clauses, SomeToken}
use Rattle.rr_referee.proofs.CourseLemmas.{one_course}

pub best_run : (net : Net) (sheet : List TrainWord) (claim : ℕ) (tree : CertTree) → Accepts net claim tree → (legal : IsLegal net sheet claim) → Optimal net legal.run
best_run net sheet claim tree accepted legal = accepted_optimal net claim tree accepted legal.run legal.is_run legal.earns

pub most_of_all : (net : Net) (sheet other : List TrainWord) (claim revenue : ℕ) (tree : CertTree) → IsLegal net sheet claim → Accepts net claim tree → IsLegal net other revenue
    → revenue ≤ claim
most_of_all net sheet other claim revenue tree legal accepted also = subst (λ earns. earns ≤ claim) also.earns (accepted_most net claim tree accepted also.run also.is_run)

-- the numbers of links tell the links
same_numbers : (links others : List ℕ) → map suc links ≡ map suc others → links ≡ others
same_numbers [] [] same = refl
same_numbers [] (other ∷ others) same = let none : [] ≡ suc other ∷ map suc others = same in cc
same_numbers (link ∷ links) [] same = let none : suc link ∷ map suc links ≡ [] = same in cc
same_numbers (link ∷ links) (other ∷ others) same =
    let e : suc link ∷ map suc links ≡ suc other ∷ map suc others = same in
    let first : suc link ≡ suc other = cc in
    let rest : map suc links ≡ map suc others = cc in
    let head : link ≡ other = omega (arith, first) in
    ap (λ l. l ∷ links) head ∙ ap (λ (ls : List ℕ). other ∷ ls) (same_numbers links others rest)

places_back : (links : List ℕ) → map (λ number. number - 1) (map suc links) ≡ links
places_back [] = refl
places_back (link ∷ links) =
    let back : suc link - 1 ≡ link = omega arith in
    ap (λ l. l ∷ map (λ number. number - 1) (map suc links)) back ∙ ap (λ (ls : List ℕ). link ∷ ls) (places_back links)

numbered : (links : List ℕ) (number : ℕ) → Contains (map suc links) number → (link : ℕ) × Contains links link × (number ≡ suc link)
numbered [] number c = absurd (Contains-nil number c)
numbered (link ∷ links) number c =
    elim (Contains-cases (suc link) (map suc links) number c) [
      | inl is ↦ (link, Contains-here link links, sym is)
      | inr later ↦ let found = numbered links number later in (found.0, Contains-there link links found.0 found.1, found.2)
    ]

walk_some : (net : Net) {links : List ℕ} {nodes : List Node} → Walk net links nodes → links ≡ [] → ⊥
walk_some net (one_link link from to joins) none = cc
walk_some net (goes_on link next links from to nodes joins passes rest) none = cc

trip_same : (one other : Trip) → one.links ≡ other.links → one.nodes ≡ other.nodes → one ≡ other
trip_same one other links nodes =
    let first : one ≡ record { links = other.links; nodes = one.nodes } = ap (λ (ls : List ℕ). let t : Trip = record { links = ls; nodes = one.nodes } in t) links in
    first ∙ ap (λ (ns : List Node). let t : Trip = record { links = other.links; nodes = ns } in t) nodes

-- the links of a trip are those that its word names
pub places_named : (limit : CentreLimit) (word : TrainWord) (trip : Trip) → IsWordOf limit word trip → links_of word ≡ trip.links
places_named limit word trip is = ap (λ (ns : List ℕ). map (λ number. number - 1) ns) is.numbers ∙ places_back trip.links

-- a train's trip is a route or none
abbrev IsRouteOrNone : Net → CentreLimit → Trip → Type 0
IsRouteOrNone net limit trip = (trip ≡ no_trip) ⊎ Route net limit trip

module _ (net : Net) (limit : CentreLimit) where
  none_and_route : (one other : Trip) → one.links ≡ other.links → one ≡ no_trip → Route net limit other → ⊥
  none_and_route one other same none route = walk_some net route.path.0 (sym same ∙ ap (λ (t : Trip). t.links) none)

  same_links : (one other : Trip) → one.links ≡ other.links → IsRouteOrNone net limit one → IsRouteOrNone net limit other → one ≡ other
  same_links one other same (inl none) (inl also) = none ∙ sym also
  same_links one other same (inl none) (inr route) = absurd (none_and_route one other same none route)
  same_links one other same (inr route) (inl none) = absurd (none_and_route other one (sym same) none route)
  same_links one other same (inr route) (inr also) =
      trip_same one other same (one_course net one.links one.nodes other.nodes route.path.0 route.ends
      (subst (λ (ls : List ℕ). Walk net ls other.nodes) (sym same) also.path.0) also.ends)

  same_word : (word : TrainWord) (one other : Trip) → IsWordOf limit word one → IsWordOf limit word other → IsRouteOrNone net limit one → IsRouteOrNone net limit other → one ≡ other
  same_word word one other is also lawful too = same_links one other (same_numbers one.links other.links (sym is.numbers ∙ also.numbers)) lawful too

none_inside : (sheet : List TrainWord) (train : ℕ) → train < length sheet → slice_get sheet train ≡ None → ⊥
none_inside [] train less none = omega arith
none_inside (word ∷ sheet) zero less none = none-some word (sym none)
none_inside (word ∷ sheet) (suc train) less none = none_inside sheet train (omega arith) none

word_of : (found : Option TrainWord) → (found ≡ None → ⊥) → (word : TrainWord) × (found ≡ Some word)
word_of None never = absurd (never refl)
word_of (Some word) never = (word, refl)

module _ (net : Net) (sheet : List TrainWord) where
  -- the words of so many trains are those of one run
  same_run : (count : ℕ) (run other : List Trip) → AreLawful net sheet count run → AreLawful net sheet count other → run ≡ other
  same_run count run other all also =
      let here = all.complete in
      let there = also.complete in
      let enough = all.enough in
      same_lists run other (here ∙ sym there) (λ k d less.
      let inside : k < count = omega (arith, less, here) in
      let found = word_of (slice_get sheet k) (none_inside sheet k (omega (arith, inside, enough))) in
      let same = same_word net (limit_of net k) found.0 (trip_of run k) (trip_of other k) (all.words k found.0 inside found.1) (also.words k found.0 inside found.1)
      (all.lawful k inside) (also.lawful k inside) in
      get_or_default run k d no_trip less ∙ same ∙ get_or_default other k no_trip d (omega (arith, inside, there)))

  lawful_of : (run : List Trip) → IsSheetOf net sheet run → Run net run → AreLawful net sheet (length net.trains) run
  lawful_of run is_sheet is_run =
      let count = is_run.complete in
      let words = is_sheet.complete in
      record {
        complete = count;
        enough = omega (arith, count, words);
        words = λ train word less at. is_sheet.each train word at;
        lawful = λ train less. is_run.lawful train;
      }

  pub one_run : (run other : List Trip) → IsSheetOf net sheet run → Run net run → IsSheetOf net sheet other → Run net other → run ≡ other
  one_run run other is_sheet is_run also too = same_run (length net.trains) run other (lawful_of run is_sheet is_run) (lawful_of other also too)

-- clauses that all hold
none_first : (Holds : Clause → Type 0) (clause : Clause) → Holds NoWalk → Holds NodeTwice → Holds TerminalInside → Holds NoToken → Holds TooManyCentres
    → IsFirstBroken Holds route_clauses clause → ⊥
none_first Holds clause a b c d e broken =
    elim broken [
      | inl h ↦ h.1 a
      | inr rest ↦ elim rest.1 [
        | inl h ↦ h.1 b
        | inr rest ↦ elim rest.1 [
          | inl h ↦ h.1 c
          | inr rest ↦ elim rest.1 [
            | inl h ↦ h.1 d
            | inr rest ↦ elim rest.1 [ inl h ↦ h.1 e | inr rest ↦ rest.1 ]
          ]
        ]
      ]
    ]

module _ (net : Net) (limit : CentreLimit) (word : TrainWord) (trip : Trip) (is_word : IsWordOf limit word trip) (lawful : IsRouteOrNone net limit trip) where
  links_are : links_of word ≡ trip.links
  links_are = places_named limit word trip is_word

  link_inside : IsRouteOrNone net limit trip → (link : ℕ) → Contains trip.links link → link < length net.links
  link_inside (inl none) link c = absurd (Contains-nil link (subst (λ (t : Trip). Contains t.links link) none c))
  link_inside (inr route) link c = Walk-in_net net route.path.0 link c

  its_word : IsItsWord net limit word
  its_word = record {
    kind = is_word.kind;
    links = λ number c.
        let found = numbered trip.links number (subst (λ (ns : List ℕ). Contains ns number) is_word.numbers c) in
        let inside = link_inside lawful found.0 found.1 in
        let is = found.2 in
        (omega (arith, is), omega (arith, is, inside));
  }

  no_links : trip ≡ no_trip → word.links ≡ []
  no_links none = is_word.numbers ∙ ap (λ (t : Trip). map suc t.links) none

  route_holds : Route net limit trip → (clause : Clause) → IsFirstBroken (Asks net limit trip.links) route_clauses clause → ⊥
  route_holds route clause =
      none_first (Asks net limit trip.links) clause (ascends is_word.direction, with (λ nodes. ⊤) tt) (with NoneTwice route.path.1)
      (with (NoTerminalInside net) route.no_terminal) (with (SomeToken net) route.token) (with (λ nodes. IsWithin limit (length (centres nodes))) route.counted)
    where
      with : (P : List Node → Type 0) → P trip.nodes → Course net P trip.links
      with P holds = record { nodes = trip.nodes; walk = route.path.0; ends = route.ends; holds = holds }

      ascends : (trip.links ≡ []) ⊎ Ascends trip.links → Ascends trip.links
      ascends (inl none) = absurd (walk_some net route.path.0 none)
      ascends (inr up) = up

  -- a lawful word breaks nothing
  never_broken : (found : Option TrainWord) (clause : Clause) → found ≡ Some word → BreaksWord net limit found clause → ⊥
  never_broken found clause is (missing none wrong) = none-some word (sym none ∙ is)
  never_broken found clause is (another other at not_its wrong) = let same : word ≡ other = cc in not_its (subst (λ w. IsItsWord net limit w) same its_word)
  never_broken found clause is (no_route other at its some broken) =
      let same : other ≡ word = cc in
      elim lawful [
        | inl none ↦ some (ap (λ (w : TrainWord). w.links) same ∙ no_links none)
        | inr route ↦ route_holds route clause (subst (λ (ls : List ℕ). IsFirstBroken (Asks net limit ls) route_clauses clause)
            (ap (λ (w : TrainWord). links_of w) same ∙ links_are) broken)
      ]

module _ (net : Net) (sheet : List TrainWord) where
  -- among lawful words none breaks a clause
  lawful_word : (count : ℕ) (run : List Trip) (train : ℕ) (clause : Clause) → AreLawful net sheet count run → train < count
      → BreaksWord net (limit_of net train) (slice_get sheet train) clause → ⊥
  lawful_word count run train clause all less broken =
      let enough = all.enough in
      let found = word_of (slice_get sheet train) (none_inside sheet train (omega (arith, less, enough))) in
      never_broken net (limit_of net train) found.0 (trip_of run train) (all.words train found.0 less found.1) (all.lawful train less) (slice_get sheet train) clause found.1 broken

  pub none_broken : (revenue : ℕ) (clause : Clause) → IsLegal net sheet revenue → Breaks net sheet clause → ⊥
  none_broken revenue clause legal (at_train train run less so_far broken) =
      lawful_word (length net.trains) legal.run train clause (lawful_of net sheet legal.run legal.is_sheet legal.is_run) less broken
  none_broken revenue clause legal (left_over run all more wrong) =
      let words = legal.is_sheet.complete in let count = legal.is_run.complete in omega (arith, words, count, more)
  none_broken revenue clause legal (shared run all words meets wrong) =
      let same = same_run net sheet (length net.trains) legal.run run (lawful_of net sheet legal.run legal.is_sheet legal.is_run) all in
      meets (subst (λ (r : List Trip). AreApart r) same legal.is_run.apart)

first_same : (Holds : Clause → Type 0) (clauses : List Clause) (one other : Clause) → IsFirstBroken Holds clauses one → IsFirstBroken Holds clauses other → one ≡ other
first_same Holds [] one other broken also = absurd broken
first_same Holds (clause ∷ clauses) one other (inl here) (inl also) = here.0 ∙ sym also.0
first_same Holds (clause ∷ clauses) one other (inl here) (inr later) = absurd (here.1 later.0)
first_same Holds (clause ∷ clauses) one other (inr later) (inl here) = absurd (here.1 later.0)
first_same Holds (clause ∷ clauses) one other (inr later) (inr also) = first_same Holds clauses one other later.1 also.1

module _ (net : Net) (limit : CentreLimit) (found : Option TrainWord) (one other : Clause) where
  none_or_one : (word : TrainWord) → found ≡ None → found ≡ Some word → ⊥
  none_or_one word none is = none-some word (sym none ∙ is)

  its_own : (word also : TrainWord) → found ≡ Some word → found ≡ Some also → (IsItsWord net limit word → ⊥) → IsItsWord net limit also → ⊥
  its_own word also at is not_its its = let same : also ≡ word = cc in not_its (subst (λ w. IsItsWord net limit w) same its)

  word_first : BreaksWord net limit found one → BreaksWord net limit found other → one ≡ other
  word_first (missing none wrong) (missing nothing also) = wrong ∙ sym also
  word_first (missing none wrong) (another word at not_its also) = wrong ∙ sym also
  word_first (missing none wrong) (no_route word at its some broken) = absurd (none_or_one word none at)
  word_first (another word at not_its wrong) (missing none also) = wrong ∙ sym also
  word_first (another word at not_its wrong) (another second is nor also) = wrong ∙ sym also
  word_first (another word at not_its wrong) (no_route second is its some broken) = absurd (its_own word second at is not_its its)
  word_first (no_route word at its some broken) (missing none wrong) = absurd (none_or_one word none at)
  word_first (no_route word at its some broken) (another second is not_its wrong) = absurd (its_own second word is at not_its its)
  word_first (no_route word at its some broken) (no_route second is also links too) =
      let same : second ≡ word = cc in
      first_same (Asks net limit (links_of word)) route_clauses one other broken
      (subst (λ (w : TrainWord). IsFirstBroken (Asks net limit (links_of w)) route_clauses other) same too)

pub one_clause : (net : Net) (sheet : List TrainWord) (one other : Clause) → Breaks net sheet one → Breaks net sheet other → one ≡ other
one_clause net sheet one other (at_train train run less so_far broken) (at_train second trips within before also) =
    elim (cases_lt train second) [
      | inl earlier ↦ absurd (lawful_word net sheet second trips train one before earlier broken)
      | inr least ↦ elim (cases_eq second train) [
        | inl same ↦ word_first net (limit_of net train) (slice_get sheet train) one other broken
            (subst (λ k. BreaksWord net (limit_of net k) (slice_get sheet k) other) same also)
        | inr differ ↦ absurd (lawful_word net sheet train run second other so_far (omega arith) also)
      ]
    ]
one_clause net sheet one other (at_train train run less so_far broken) (left_over trips all more wrong) =
    absurd (lawful_word net sheet (length net.trains) trips train one all less broken)
one_clause net sheet one other (at_train train run less so_far broken) (shared trips all words meets wrong) =
    absurd (lawful_word net sheet (length net.trains) trips train one all less broken)
one_clause net sheet one other (left_over run all more wrong) (at_train train trips less so_far broken) =
    absurd (lawful_word net sheet (length net.trains) run train other all less broken)
one_clause net sheet one other (left_over run all more wrong) (left_over trips too also right) = wrong ∙ sym right
one_clause net sheet one other (left_over run all more wrong) (shared trips too words meets right) = absurd (omega (arith, more, words))
one_clause net sheet one other (shared run all words meets wrong) (at_train train trips less so_far broken) =
    absurd (lawful_word net sheet (length net.trains) run train other all less broken)
one_clause net sheet one other (shared run all words meets wrong) (left_over trips too more right) = absurd (omega (arith, more, words))
one_clause net sheet one other (shared run all words meets wrong) (shared trips too also more right) = wrong ∙ sym right
