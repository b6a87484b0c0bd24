-- The nodes of a walk are told by its links.
use Rattle.std.proofs.Common.{◌≡◌, ◌≢◌, ℕ, suc, ◌-◌, ◌<◌, None, Some, List, [], ◌∷◌, length, map, refl, sym, ◌∙◌, ap, subst, inl, inr, arith}
use Rattle.std.specs.List.{slice_get}
use Rattle.std.specs.Bool.{⊤}
use Rattle.rr_routes.specs.declared.net.Node.{Node}
use Rattle.rr_routes.specs.declared.net.Node.TheVariants.{Hexside, Centre}
use Rattle.rr_routes.specs.declared.net.Link.{Link}
use Rattle.rr_routes.specs.declared.net.CentreLimit.{CentreLimit}
use Rattle.rr_routes.specs.Net.{Net, AreEnds, Joins, IsWithin}
use Rattle.rr_routes.specs.Routes.{Walk, one_link, goes_on, NoneTwice, EndsAreCentres, NoTerminalInside, centres, Trip}
use Rattle.rr_checker.specs.Trips.{centre_of, centre_at, trip_over}
use Rattle.rr_checker.proofs.FollowLemmas.{far_end_to}
use Rattle.rr_routes.specs.declared.sheets.sheet.TrainWord.{TrainWord}
use Rattle.rr_books.specs.declared.clause.Clause.{Clause}
use Rattle.rr_books.specs.declared.clause.Clause.TheVariants.{NoWalk, NodeTwice, TerminalInside, NoToken, TooManyCentres}
use Rattle.rr_books.specs.declared.refusal.Refusal.{Refusal}
use Rattle.rr_referee.specs.Revenue.{course_from, course_of}
use Rattle.rr_referee.specs.Sheets.{Course, SomeToken, Asks, route_clauses, IsFirstBroken, IsItsWord, links_of, BreaksWord, no_route, IsRefusal}
use Rattle.rr_referee.specs.Tests.{start_of, onward, IsCourse, IsOnlyCourse, IsRouteUp, IsLawfulWord}
use Rattle.rr_referee.proofs.WordLemmas.{word_numbers}

module _ (net : Net) where
  -- the nodes behind the first
  onward_is : (links : List ℕ) (at : Node) (behind : List Node) → Walk net links (at ∷ behind) → behind ≡ onward net at links
  onward_is _ at _ (one_link link _ to joins) = ap (λ (n : Node). n ∷ []) (sym (far_end_to net link at to joins))
  onward_is _ at _ (goes_on link next links _ to nodes joins passes rest) =
      rw (far_end_to net link at to joins) (ap (λ (ns : List Node). to ∷ ns) (onward_is (next ∷ links) to nodes rest))

  start_ends : (link : Link) (centre : ℕ) (to : Node) → AreEnds link (Centre centre) to → centre_of link.other ≡ Some centre
  start_ends link centre to (inl ends) = let differ : Centre centre ≡ Hexside link.side = ends.0 in cc
  start_ends link centre to (inr ends) = ap centre_of (sym ends.0)

  start_is : (link centre : ℕ) (to : Node) → Joins net link (Centre centre) to → centre_at (slice_get net.links link) ≡ Some centre
  start_is link centre to joins = ap centre_at joins.1 ∙ start_ends joins.0 centre to joins.2

  -- where a walk between centres begins, and the nodes along it
  record Begins (links : List ℕ) (nodes : List Node) : Type 0 where
    centre : ℕ
    start : start_of net links ≡ Some centre
    along : nodes ≡ Centre centre ∷ onward net (Centre centre) links

  begins : (links : List ℕ) (nodes : List Node) → Walk net links nodes → EndsAreCentres nodes → Begins links nodes
  begins _ _ (one_link link (Hexside side) to joins) ends = absurd ends.0
  begins _ _ (one_link link (Centre centre) to joins) ends = record {
    centre = centre;
    start = start_is link centre to joins;
    along = ap (λ (ns : List Node). Centre centre ∷ ns) (onward_is (link ∷ []) (Centre centre) (to ∷ []) (one_link link (Centre centre) to joins));
  }
  begins _ _ (goes_on link next links (Hexside side) to nodes joins passes rest) ends = absurd ends.0
  begins _ _ (goes_on link next links (Centre centre) to nodes joins passes rest) ends = record {
    centre = centre;
    start = start_is link centre to joins;
    along = ap (λ (ns : List Node). Centre centre ∷ ns)
        (onward_is (link ∷ next ∷ links) (Centre centre) (to ∷ nodes) (goes_on link next links (Centre centre) to nodes joins passes rest));
  }

  pub no_start : (links : List ℕ) (nodes : List Node) → start_of net links ≡ None → Walk net links nodes → EndsAreCentres nodes → ⊥
  no_start links nodes none walk ends = let h : start_of net links ≡ Some (begins links nodes walk ends).centre = (begins links nodes walk ends).start in cc

  pub only_course : (links : List ℕ) (nodes : List Node) (centre : ℕ) → start_of net links ≡ Some centre → nodes ≡ Centre centre ∷ onward net (Centre centre) links
      → IsOnlyCourse net links nodes
  only_course links nodes centre start along others walk ends =
      let h = begins links others walk ends in
      let again : start_of net links ≡ Some h.centre = h.start in
      let same : h.centre ≡ centre = cc in
      h.along ∙ ap (λ c. Centre c ∷ onward net (Centre c) links) same ∙ sym along

  -- a walk between centres goes along the nodes at which its links lead
  pub course_is : (links : List ℕ) (nodes : List Node) → Walk net links nodes → EndsAreCentres nodes → nodes ≡ course_of net links
  course_is links nodes walk ends = let h = begins links nodes walk ends in h.along ∙ ap (course_from net links) (sym h.start)

  -- two walks between centres over the same links go along the same nodes
  pub one_course : (links : List ℕ) (nodes others : List Node) → Walk net links nodes → EndsAreCentres nodes → Walk net links others → EndsAreCentres others → nodes ≡ others
  one_course links nodes others walk ends also behind =
      let h = begins links others also behind in only_course links others h.centre h.start h.along nodes walk ends

-- links that begin at no centre
pub nowhere : (net : Net) (limit : CentreLimit) (links : List ℕ) → start_of net links ≡ None → IsFirstBroken (Asks net limit links) route_clauses NoWalk
nowhere net limit links none = inl (refl, λ asks. no_start net links asks.1.nodes none asks.1.walk asks.1.ends)

module _ (net : Net) (limit : CentreLimit) (links : List ℕ) (nodes : List Node) where
  abbrev Broken : Clause → Type 0
  Broken clause = IsFirstBroken (Asks net limit links) route_clauses clause

  met : (P : List Node → Type 0) → IsCourse net links nodes → P nodes → Course net P links
  met P course holds = record { nodes = nodes; walk = course.walk; ends = course.ends; holds = holds }

  walks : IsCourse net links nodes → Asks net limit links NoWalk
  walks course = (course.ascends, met (λ ns. ⊤) course tt)

  module _ (only : IsOnlyCourse net links nodes) where
    asked : (P : List Node → Type 0) → Course net P links → P nodes
    asked P course = subst P (only course.nodes course.walk course.ends) course.holds

    pub no_course : (IsCourse net links nodes → ⊥) → Broken NoWalk
    no_course never =
        inl (
          refl,
          λ asks.
              let same = only asks.1.nodes asks.1.walk asks.1.ends in
              never (record {
                ascends = asks.0;
                walk = subst (λ ns. Walk net links ns) same asks.1.walk;
                ends = subst EndsAreCentres same asks.1.ends;
              }),
        )

    pub node_twice : IsCourse net links nodes → (NoneTwice nodes → ⊥) → Broken NodeTwice
    node_twice course never = inr (walks course, inl (refl, λ asks. never (asked NoneTwice asks)))

    pub terminal_inside : IsCourse net links nodes → NoneTwice nodes → (NoTerminalInside net nodes → ⊥) → Broken TerminalInside
    terminal_inside course simple never =
        inr (walks course, inr (met NoneTwice course simple, inl (refl, λ asks. never (asked (NoTerminalInside net) asks))))

    pub token_missing : IsCourse net links nodes → NoneTwice nodes → NoTerminalInside net nodes → (SomeToken net nodes → ⊥) → Broken NoToken
    token_missing course simple clear never =
        inr (walks course, inr (met NoneTwice course simple, inr (met (NoTerminalInside net) course clear, inl (refl, λ asks. never (asked (SomeToken net) asks)))))

    pub centres_over : IsCourse net links nodes → NoneTwice nodes → NoTerminalInside net nodes → SomeToken net nodes
        → (IsWithin limit (length (centres nodes)) → ⊥) → Broken TooManyCentres
    centres_over course simple clear token never =
        inr (
          walks course,
          inr (
            met NoneTwice course simple,
            inr (
              met (NoTerminalInside net) course clear,
              inr (
                met (SomeToken net) course token,
                inl (refl, λ asks. never (asked (λ ns. IsWithin limit (length (centres ns))) asks)),
              ),
            ),
          ),
        )

  pub route_up : IsCourse net links nodes → NoneTwice nodes → NoTerminalInside net nodes → SomeToken net nodes → IsWithin limit (length (centres nodes))
      → IsRouteUp net limit (trip_over links nodes)
  route_up course simple clear token counted =
      (course.ascends, record { path = (course.walk, simple); ends = course.ends; no_terminal = clear; token = token; counted = counted })

-- a refusal for one thing as one for another
pub IsRefusal-like : (Broken Also : Clause → Type 0) (fault : Refusal) → ((clause : Clause) → Broken clause → Also clause) → IsRefusal Broken fault → IsRefusal Also fault
IsRefusal-like Broken Also fault each (inl memory) = inl memory
IsRefusal-like Broken Also fault each (inr named) = inr (named.0, named.1, each named.0 named.2)

module _ (net : Net) (limit : CentreLimit) (word : TrainWord) (its : IsItsWord net limit word) where
  -- a word without links
  pub stays : (trip : Trip) → trip.links ≡ links_of word → trip.nodes ≡ [] → trip.links ≡ [] → IsLawfulWord net limit word trip
  stays trip links_are none empty = (
    record { kind = its.kind; numbers = word_numbers net limit word its ∙ ap (λ (ls : List ℕ). map suc ls) (sym links_are); direction = inl empty },
    inl (rw (sym empty, sym none) refl),
  )

  -- a word whose links are a route
  pub runs : (trip : Trip) → trip.links ≡ links_of word → IsRouteUp net limit trip → IsLawfulWord net limit word trip
  runs trip links_are up = (
    record { kind = its.kind; numbers = word_numbers net limit word its ∙ ap (λ (ls : List ℕ). map suc ls) (sym links_are); direction = inr up.0 },
    inr up.1,
  )

  -- a word whose links are none
  pub breaks : (links : List ℕ) (clause : Clause) → links ≡ links_of word → links ≢ [] → IsFirstBroken (Asks net limit links) route_clauses clause
      → BreaksWord net limit (Some word) clause
  breaks links clause links_are some broken =
      no_route word refl its (λ none. some (links_are ∙ ap (λ (ns : List ℕ). map (λ number. number - 1) ns) none))
      (subst (λ (ls : List ℕ). IsFirstBroken (Asks net limit ls) route_clauses clause) links_are broken)

  pub refused_links : (links : List ℕ) (fault : Refusal) → links ≡ links_of word → links ≢ [] → IsRefusal (IsFirstBroken (Asks net limit links) route_clauses) fault
      → IsRefusal (BreaksWord net limit (Some word)) fault
  refused_links links fault links_are some =
      IsRefusal-like (IsFirstBroken (Asks net limit links) route_clauses) (BreaksWord net limit (Some word)) fault (λ clause broken. breaks links clause links_are some broken)

pub not_empty : (links : List ℕ) → 0 < length links → links ≢ []
not_empty links some none = let h : length links ≡ 0 = ap (λ (ls : List ℕ). length ls) none in omega (arith, h, some)
