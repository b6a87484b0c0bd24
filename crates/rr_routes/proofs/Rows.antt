-- The rows on the small board.
use Rattle.std.proofs.Common.{◌≡◌, ℕ, zero, suc, ◌<◌, ◌≤◌, List, [], ◌∷◌, length, get_or, Bool, true, false, not, ◌&&◌, ◌||◌, eqb, refl, ap, subst, ◌∙◌, ◌⊎◌, inl, inr, arith, eq-eqb}
use Rattle.std.specs.List.{Contains, list_any, sum_by}
use Rattle.std.proofs.lemmas.Bool.{and_parts, not-true, both_ways}
use Rattle.rr_routes.specs.declared.net.Node.{Node}
use Rattle.rr_routes.specs.declared.net.Node.TheVariants.{Hexside, Centre}
use Rattle.rr_routes.specs.declared.net.Link.{Link}
use Rattle.rr_routes.specs.declared.net.CentreLimit.{CentreLimit}
use Rattle.rr_routes.specs.declared.net.CentreLimit.TheVariants.{AtMost, Unlimited}
use Rattle.rr_routes.specs.declared.certificate.CertTree.{Bound}
use Rattle.rr_routes.specs.Net.{Net, LinkAt, IsTerminal, limit_of, value}
use Rattle.rr_routes.specs.Routes.{Passes, Walk, one_link, goes_on, NoneTwice, NoTerminalInside, Trip, no_trip, trip_of, Route, Apart, Run, Optimal, worth, earned}
use Rattle.rr_routes.specs.Certificates.{MayUse, Pick, all_open, Accepts}
use Rattle.rr_routes.specs.SmallBoard.{link_in, small_board, to_town, to_city, off_board}
use Rattle.rr_routes.proofs.Elements.{Contains-here, Contains-cases, Contains-nil, Contains-single, sum_within}
use Rattle.rr_routes.proofs.Walks.{LinkAt-same}
use Rattle.rr_routes.proofs.Reaching.{AllReached, walk_reached}
use Rattle.rr_routes.proofs.Optimality.{accepted_optimal}

-- a test that no node stands twice
abbrev same_node : Node → Node → Bool
same_node (Hexside side) (Hexside other) = eqb side other
same_node (Centre centre) (Centre other) = eqb centre other
same_node _ _ = false

abbrev none_twice : List Node → Bool
none_twice [] = true
none_twice (node ∷ nodes) = not (list_any (same_node node) nodes) && none_twice nodes

same_itself : (node : Node) → same_node node node ≡ true
same_itself (Hexside side) = eq-eqb side side refl
same_itself (Centre centre) = eq-eqb centre centre refl

or_true : (b c : Bool) → c ≡ true → (b || c) ≡ true
or_true true c is = refl
or_true false c is = is

found : (node : Node) (nodes : List Node) → Contains nodes node → list_any (same_node node) nodes ≡ true
found node [] c = absurd (Contains-nil node c)
found node (first ∷ nodes) c =
    elim (Contains-cases first nodes node c) [
      | inl is ↦ ap (λ b. b || list_any (same_node node) nodes) (ap (same_node node) is ∙ same_itself node)
      | inr later ↦ or_true (same_node node first) (list_any (same_node node) nodes) (found node nodes later)
    ]

NoneTwice-test : (nodes : List Node) → none_twice nodes ≡ true → NoneTwice nodes
NoneTwice-test [] passes = tt
NoneTwice-test (node ∷ nodes) passes =
    let parts = and_parts (not (list_any (same_node node) nodes)) (none_twice nodes) passes in (
      λ c. both_ways (list_any (same_node node) nodes) (not-true (list_any (same_node node) nodes) parts.0) (found node nodes c),
      NoneTwice-test nodes parts.1,
    )

-- from a link into one of another hex
passes_side : (net : Net) (link next side : ℕ) (one other : Link) → LinkAt net link one → LinkAt net next other → (one.hex ≡ other.hex → ⊥)
    → Passes net link (Hexside side) next
passes_side net link next side one other at also differ = (
  λ same. differ (ap (λ l. l.hex) (LinkAt-same net next one other (subst (λ place. LinkAt net place one) same at) also)),
  λ first second is_first is_second same. differ (
      ap (λ l. l.hex) (LinkAt-same net link one first at is_first) ∙ same
      ∙ ap (λ l. l.hex) (LinkAt-same net next second other is_second also)
      ),
)

module _ (limit : CentreLimit) where
  -- from the first city to where the town's hex begins
  from_city : (links : List ℕ) (nodes : List Node) → Walk (small_board limit) (2 ∷ links) (Hexside 1 ∷ nodes)
      → Walk (small_board limit) (0 ∷ 1 ∷ 2 ∷ links) (Centre 0 ∷ Hexside 0 ∷ Hexside 1 ∷ nodes)
  from_city links nodes rest =
      goes_on 0 1 (2 ∷ links) (Centre 0) (Hexside 0) (Hexside 1 ∷ nodes) (link_in 0 0 (Centre 0), refl, inr (refl, refl))
      (passes_side (small_board limit) 0 1 0 (link_in 0 0 (Centre 0)) (link_in 1 0 (Hexside 1)) refl refl (λ same. omega arith))
      (goes_on 1 2 links (Hexside 0) (Hexside 1) nodes (link_in 1 0 (Hexside 1), refl, inl (refl, refl))
      (passes_side (small_board limit) 1 2 1 (link_in 1 0 (Hexside 1)) (link_in 2 1 (Centre 1)) refl refl (λ same. omega arith)) rest)

  -- through the town
  through_town : (links : List ℕ) (nodes : List Node) → Walk (small_board limit) (4 ∷ links) (Hexside 2 ∷ nodes)
      → Walk (small_board limit) (2 ∷ 3 ∷ 4 ∷ links) (Hexside 1 ∷ Centre 1 ∷ Hexside 2 ∷ nodes)
  through_town links nodes rest =
      goes_on 2 3 (4 ∷ links) (Hexside 1) (Centre 1) (Hexside 2 ∷ nodes) (link_in 2 1 (Centre 1), refl, inl (refl, refl)) (λ same. omega arith)
      (goes_on 3 4 links (Centre 1) (Hexside 2) nodes (link_in 2 2 (Centre 1), refl, inr (refl, refl))
      (passes_side (small_board limit) 3 4 2 (link_in 2 2 (Centre 1)) (link_in 3 2 (Centre 2)) refl refl (λ same. omega arith)) rest)

  -- through the second city and off the board
  through_city : Walk (small_board limit) (4 ∷ 5 ∷ 6 ∷ []) (Hexside 2 ∷ Centre 2 ∷ Hexside 3 ∷ Centre 3 ∷ [])
  through_city =
      goes_on 4 5 (6 ∷ []) (Hexside 2) (Centre 2) (Hexside 3 ∷ Centre 3 ∷ []) (link_in 3 2 (Centre 2), refl, inl (refl, refl)) (λ same. omega arith)
      (goes_on 5 6 [] (Centre 2) (Hexside 3) (Centre 3 ∷ []) (link_in 3 3 (Centre 2), refl, inr (refl, refl))
      (passes_side (small_board limit) 5 6 3 (link_in 3 3 (Centre 2)) (link_in 4 3 (Centre 3)) refl refl (λ same. omega arith))
      (one_link 6 (Hexside 3) (Centre 3) (link_in 4 3 (Centre 3), refl, inl (refl, refl))))

  walk_to_town : Walk (small_board limit) (0 ∷ 1 ∷ 2 ∷ []) (Centre 0 ∷ Hexside 0 ∷ Hexside 1 ∷ Centre 1 ∷ [])
  walk_to_town = from_city [] (Centre 1 ∷ []) (one_link 2 (Hexside 1) (Centre 1) (link_in 2 1 (Centre 1), refl, inl (refl, refl)))

  walk_to_city : Walk (small_board limit) (0 ∷ 1 ∷ 2 ∷ 3 ∷ 4 ∷ []) (Centre 0 ∷ Hexside 0 ∷ Hexside 1 ∷ Centre 1 ∷ Hexside 2 ∷ Centre 2 ∷ [])
  walk_to_city =
      from_city (3 ∷ 4 ∷ []) (Centre 1 ∷ Hexside 2 ∷ Centre 2 ∷ []) (through_town [] (Centre 2 ∷ [])
      (one_link 4 (Hexside 2) (Centre 2) (link_in 3 2 (Centre 2), refl, inl (refl, refl))))

  walk_off_board : Walk (small_board limit) (0 ∷ 1 ∷ 2 ∷ 3 ∷ 4 ∷ 5 ∷ 6 ∷ [])
      (Centre 0 ∷ Hexside 0 ∷ Hexside 1 ∷ Centre 1 ∷ Hexside 2 ∷ Centre 2 ∷ Hexside 3 ∷ Centre 3 ∷ [])
  walk_off_board =
      from_city (3 ∷ 4 ∷ 5 ∷ 6 ∷ []) (Centre 1 ∷ Hexside 2 ∷ Centre 2 ∷ Hexside 3 ∷ Centre 3 ∷ [])
      (through_town (5 ∷ 6 ∷ []) (Centre 2 ∷ Hexside 3 ∷ Centre 3 ∷ []) through_city)

  -- a side is no terminal, nor are town and second city
  side_goes_on : (side : ℕ) → IsTerminal (small_board limit) (Hexside side) → ⊥
  side_goes_on side terminal = terminal

  town_goes_on : IsTerminal (small_board limit) (Centre 1) → ⊥
  town_goes_on terminal = let same : ◌≡◌ {A = ℕ} 3 1 = Contains-single 3 1 terminal in omega arith

  city_goes_on : IsTerminal (small_board limit) (Centre 2) → ⊥
  city_goes_on terminal = let same : ◌≡◌ {A = ℕ} 3 2 = Contains-single 3 2 terminal in omega arith

  off_board_inside : NoTerminalInside (small_board limit) (Centre 0 ∷ Hexside 0 ∷ Hexside 1 ∷ Centre 1 ∷ Hexside 2 ∷ Centre 2 ∷ Hexside 3 ∷ Centre 3 ∷ [])
  off_board_inside = (side_goes_on 0, (side_goes_on 1, (town_goes_on, (side_goes_on 2, (city_goes_on, (side_goes_on 3, tt))))))

  -- the one train's route is a run
  single_lawful : (trip : Trip) → Route (small_board limit) limit trip → (train : ℕ)
      → (trip_of (trip ∷ []) train ≡ no_trip) ⊎ Route (small_board limit) (limit_of (small_board limit) train) (trip_of (trip ∷ []) train)
  single_lawful trip route zero = inr route
  single_lawful trip route (suc train) = inl refl

  single_apart : (trip : Trip) (one other : ℕ) → (one ≡ other → ⊥) → Apart (trip_of (trip ∷ []) one) (trip_of (trip ∷ []) other)
  single_apart trip zero zero differ side c d = differ refl
  single_apart trip zero (suc other) differ side c d = Contains-nil (Hexside side) d
  single_apart trip (suc one) other differ side c d = Contains-nil (Hexside side) c

  single_run : (trip : Trip) → Route (small_board limit) limit trip → Run (small_board limit) (trip ∷ [])
  single_run trip route = record { complete = refl; lawful = single_lawful trip route; apart = single_apart trip }

two_runs : Run (small_board (AtMost 2)) (to_town ∷ [])
two_runs =
    single_run (AtMost 2) to_town (record {
      path = (walk_to_town (AtMost 2), NoneTwice-test to_town.nodes refl);
      ends = (tt, tt);
      no_terminal = (side_goes_on (AtMost 2) 0, (side_goes_on (AtMost 2) 1, tt));
      token = (Centre 0, Contains-here (Centre 0) (Hexside 0 ∷ Hexside 1 ∷ Centre 1 ∷ []), Contains-here 0 []);
      counted = omega arith;
    })

pub two_earns : Run (small_board (AtMost 2)) (to_town ∷ []) × (earned (small_board (AtMost 2)) (to_town ∷ []) ≡ 30)
unfolding earned
two_earns = (two_runs, refl)

three_runs : Run (small_board (AtMost 3)) (to_city ∷ [])
three_runs =
    single_run (AtMost 3) to_city (record {
      path = (walk_to_city (AtMost 3), NoneTwice-test to_city.nodes refl);
      ends = (tt, tt);
      no_terminal = (side_goes_on (AtMost 3) 0, (side_goes_on (AtMost 3) 1, (town_goes_on (AtMost 3), (side_goes_on (AtMost 3) 2, tt))));
      token = (Centre 0, Contains-here (Centre 0) (Hexside 0 ∷ Hexside 1 ∷ Centre 1 ∷ Hexside 2 ∷ Centre 2 ∷ []), Contains-here 0 []);
      counted = omega arith;
    })

pub three_earns : Run (small_board (AtMost 3)) (to_city ∷ []) × (earned (small_board (AtMost 3)) (to_city ∷ []) ≡ 60)
unfolding earned
three_earns = (three_runs, refl)

unlimited_runs : Run (small_board Unlimited) (off_board ∷ [])
unlimited_runs =
    single_run Unlimited off_board (record {
      path = (walk_off_board Unlimited, NoneTwice-test off_board.nodes refl);
      ends = (tt, tt);
      no_terminal = off_board_inside Unlimited;
      token = (Centre 0, Contains-here (Centre 0) (Hexside 0 ∷ Hexside 1 ∷ Centre 1 ∷ Hexside 2 ∷ Centre 2 ∷ Hexside 3 ∷ Centre 3 ∷ []), Contains-here 0 []);
      counted = tt;
    })

-- what is no centre of the board is worth nothing
worth_nothing : (limit : CentreLimit) (centre : ℕ) → Contains (0 ∷ 1 ∷ 2 ∷ 3 ∷ []) centre ⊎ (value (small_board limit) centre ≡ 0)
worth_nothing limit zero = inl (0, omega arith, refl)
worth_nothing limit (suc zero) = inl (1, omega arith, refl)
worth_nothing limit (suc (suc zero)) = inl (2, omega arith, refl)
worth_nothing limit (suc (suc (suc zero))) = inl (3, omega arith, refl)
worth_nothing limit (suc (suc (suc (suc centre)))) = inr refl

-- the bound of a train that counts every centre
all_bounded : (picks : List (List ℕ)) → length picks ≡ 1
    → ((train : ℕ) → train < length picks → Pick (small_board Unlimited) (all_open (small_board Unlimited)) train (get_or picks train []))
    → sum_by (worth (small_board Unlimited)) picks ≤ 100
all_bounded [] one each = omega arith
all_bounded (picked ∷ more ∷ picks) one each = omega arith
all_bounded (picked ∷ []) one each =
    let pick = each 0 (omega arith) in
    let below : sum_by (value (small_board Unlimited)) picked ≤ 100 =
    sum_within (value (small_board Unlimited)) picked (0 ∷ 1 ∷ 2 ∷ 3 ∷ []) pick.none_twice (λ centre c. worth_nothing Unlimited centre) in
    omega (arith, below)

unlimited_accepted : Accepts (small_board Unlimited) 100 Bound
unlimited_accepted = record { small = omega arith; shown = all_bounded }

unlimited_revenue : earned (small_board Unlimited) (off_board ∷ []) ≡ 100
unfolding earned
unlimited_revenue = refl

pub unlimited_optimal : Optimal (small_board Unlimited) (off_board ∷ []) × (earned (small_board Unlimited) (off_board ∷ []) ≡ 100)
unlimited_optimal =
    (accepted_optimal (small_board Unlimited) 100 Bound unlimited_accepted (off_board ∷ []) unlimited_runs unlimited_revenue, unlimited_revenue)

-- a 3 reaches every centre, and its three greatest values are 40, 30 and 20
three_reaches : AllReached (small_board (AtMost 3)) (MayUse (all_open (small_board (AtMost 3))) 0) off_board.links off_board.nodes
three_reaches =
    walk_reached (small_board (AtMost 3)) (MayUse (all_open (small_board (AtMost 3))) 0) (walk_off_board (AtMost 3)) (off_board_inside (AtMost 3))
    (tt, (tt, (tt, (tt, (tt, (tt, (tt, tt))))))) (Centre 0)
    (Contains-here (Centre 0) (Hexside 0 ∷ Hexside 1 ∷ Centre 1 ∷ Hexside 2 ∷ Centre 2 ∷ Hexside 3 ∷ Centre 3 ∷ [])) (Contains-here 0 [])

three_pick : Pick (small_board (AtMost 3)) (all_open (small_board (AtMost 3))) 0 (3 ∷ 2 ∷ 0 ∷ [])
three_pick =
    record {
      none_twice = (
        λ c. elim (Contains-cases 2 (0 ∷ []) 3 c) [ inl is ↦ omega arith | inr later ↦ let same : ◌≡◌ {A = ℕ} 0 3 = Contains-single 0 3 later in omega arith ],
        (λ c. let same : ◌≡◌ {A = ℕ} 0 2 = Contains-single 0 2 c in omega arith, (Contains-nil 0, tt)),
      );
      counted = omega arith;
      reached = λ centre c. elim (Contains-cases 3 (2 ∷ 0 ∷ []) centre c) [
        | inl is ↦ three_reaches.each_node (Centre centre) (subst (λ n. Contains off_board.nodes (Centre n)) is (7, omega arith, refl))
        | inr later ↦ elim (Contains-cases 2 (0 ∷ []) centre later) [
          | inl is ↦ three_reaches.each_node (Centre centre) (subst (λ n. Contains off_board.nodes (Centre n)) is (5, omega arith, refl))
          | inr last ↦ three_reaches.each_node (Centre centre) (subst (λ n. Contains off_board.nodes (Centre n)) (Contains-single 0 centre last) (0, omega arith, refl))
        ]
      ];
    }

three_picks : (train : ℕ) → train < 1 → Pick (small_board (AtMost 3)) (all_open (small_board (AtMost 3))) train (get_or ((3 ∷ 2 ∷ 0 ∷ []) ∷ []) train [])
three_picks zero in' = three_pick
three_picks (suc train) in' = absurd (omega arith)

pub three_refused : Accepts (small_board (AtMost 3)) 60 Bound → ⊥
three_refused accepted =
    let over : 90 ≤ 60 = accepted.shown ((3 ∷ 2 ∷ 0 ∷ []) ∷ []) refl three_picks in
    omega arith
