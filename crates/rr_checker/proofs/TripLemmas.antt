-- Walks by the places of their links.
use Rattle.std.proofs.Common.{◌≡◌, ℕ, zero, suc, ◌+◌, ◌-◌, ◌<◌, ◌≤◌, ◌==◌, ◌&&◌, not, Bool, true, false, Option, None, Some, List, [], ◌∷◌, ◌++◌, length, ltb, get_or, take, refl, sym, ◌∙◌, ap, subst, inl, inr, arith}
use Rattle.std.specs.Bool.{Decides}
use Rattle.std.specs.List.{AllByRecursion, Contains, list_any, slice_get}
use Rattle.std.proofs.lemmas.List.{take_more, take_all}
use Rattle.std.proofs.lemmas.Bool.{cases_eq, cases_lt}
use Rattle.std.proofs.lemmas.Bool.Decides.{Decides-eqb, Decides-ltb, Decides-like, Decides-not, Decides-and, Decides-or}
use Rattle.std.proofs.lemmas.List.Elements.{Contains-get_or}
use Rattle.rr_routes.specs.declared.net.Node.{Node}
use Rattle.rr_routes.specs.declared.net.Node.TheVariants.{Hexside, Centre}
use Rattle.rr_routes.specs.declared.net.Link.{Link}
use Rattle.rr_routes.specs.declared.net.CentreLimit.{CentreLimit}
use Rattle.rr_routes.specs.declared.net.CentreLimit.TheVariants.{AtMost, Unlimited}
use Rattle.rr_routes.specs.Net.{Net, AreEnds, Joins, IsCentre, IsTerminal, IsWithin, HasToken}
use Rattle.rr_routes.specs.Routes.{Passes, Walk, one_link, goes_on, NoneTwice, but_last, inner, last, EndsAreCentres, NoTerminalInside, Route, centres}
use Rattle.rr_routes.proofs.Elements.{Contains-cases, Contains-nil}
use Rattle.rr_checker.specs.Steps.{same_node, has_token, is_terminal}
use Rattle.rr_checker.specs.Own.{is_over}
use Rattle.rr_checker.specs.Trips.{node_at, GoesAt, link_joins, joins, hexes_differ, passes_on, is_centre, IsWay, trip_over}
use Rattle.rr_checker.proofs.RankLemmas.{NoneTwice-push}
use Rattle.rr_checker.proofs.StepLemmas.{yes, no, Decides-never, Decides-always, Decides-same_node, Decides-list_any, Decides-has_token, Decides-is_terminal}
use Rattle.rr_checker.proofs.OwnLemmas.{Decides-some_link, Decides-is_over}

pub Decides-joins : (net : Net) (place : ℕ) (from to : Node) → Decides (joins net place from to) (Joins net place from to)
Decides-joins net place from to =
    Decides-some_link (slice_get net.links place) (link_joins from to) (λ link. AreEnds link from to)
    (λ link. Decides-or (same_node from (Hexside link.side) && same_node to link.other) (same_node from link.other && same_node to (Hexside link.side))
    (Decides-and (same_node from (Hexside link.side)) (same_node to link.other) (Decides-same_node from (Hexside link.side)) (Decides-same_node to link.other))
    (Decides-and (same_node from link.other) (same_node to (Hexside link.side)) (Decides-same_node from link.other) (Decides-same_node to (Hexside link.side))))

-- links of which one isn't there are in different hexes
Decides-hexes_differ : (one other : Option Link)
    → Decides (hexes_differ one other) ((first second : Link) → one ≡ Some first → other ≡ Some second → first.hex ≡ second.hex → ⊥)
Decides-hexes_differ None other = Decides-always (λ first second e f same. cc)
Decides-hexes_differ (Some one) None = Decides-always (λ first second e f same. cc)
Decides-hexes_differ (Some one) (Some other) =
    Decides-like (not (one.hex == other.hex))
    (λ differ first second e f same.
    let a : one ≡ first = cc in
    let b : other ≡ second = cc in
    differ (ap (λ (l : Link). l.hex) a ∙ same ∙ sym (ap (λ (l : Link). l.hex) b)))
    (λ apart same. apart one other refl refl same) (Decides-not (one.hex == other.hex) (Decides-eqb one.hex other.hex))

pub Decides-passes_on : (net : Net) (one : ℕ) (node : Node) (other : ℕ) → Decides (passes_on net one node other) (Passes net one node other)
Decides-passes_on net one (Centre centre) other = Decides-not (one == other) (Decides-eqb one other)
Decides-passes_on net one (Hexside side) other =
    Decides-and (not (one == other)) (hexes_differ (slice_get net.links one) (slice_get net.links other)) (Decides-not (one == other) (Decides-eqb one other))
    (Decides-hexes_differ (slice_get net.links one) (slice_get net.links other))

module _ (net : Net) where
  pub walk_length : {links : List ℕ} {nodes : List Node} → Walk net links nodes → (length nodes ≡ suc (length links)) × (0 < length links)
  walk_length (one_link link from to joined) = (refl, omega arith)
  walk_length (goes_on link next links from to nodes joined passes rest) = let h = walk_length rest in (ap suc h.0, omega arith)

  pub walk_at : {links : List ℕ} {nodes : List Node} → Walk net links nodes → (k : ℕ) → k < length links → GoesAt net links nodes k
  walk_at (one_link link from to joined) zero less = record { joins = joined; passes = λ more. absurd (omega arith) }
  walk_at (one_link link from to joined) (suc k) less = absurd (omega arith)
  walk_at (goes_on link next links from to nodes joined passes rest) zero less = record { joins = joined; passes = λ more. passes }
  walk_at (goes_on link next links from to nodes joined passes rest) (suc k) less =
      let h = walk_at rest k (omega arith) in record { joins = h.joins; passes = λ more. h.passes (omega arith) }

  pub walk_from : (links : List ℕ) (nodes : List Node) → length nodes ≡ suc (length links) → 0 < length links → ((k : ℕ) → k < length links → GoesAt net links nodes k)
      → Walk net links nodes
  walk_from [] nodes same some each = absurd (omega arith)
  walk_from (link ∷ links) [] same some each = absurd (omega arith)
  walk_from (link ∷ links) (from ∷ []) same some each = absurd (omega arith)
  walk_from (link ∷ []) (from ∷ to ∷ []) same some each = one_link link from to (each 0 (omega arith)).joins
  walk_from (link ∷ []) (from ∷ to ∷ node ∷ nodes) same some each = absurd (omega arith)
  walk_from (link ∷ next ∷ links) (from ∷ to ∷ nodes) same some each =
      let first = each 0 (omega arith) in
      goes_on link next links from to nodes first.joins (first.passes (omega arith))
      (walk_from (next ∷ links) (to ∷ nodes) (omega arith) (omega arith) (λ k less.
      let h = each (suc k) (omega arith) in record { joins = h.joins; passes = λ more. h.passes (omega arith) }))

pub twice_before : (xs : List Node) (i : ℕ) (d : Node) → i < length xs → Contains (take i xs) (get_or xs i d) → NoneTwice xs → ⊥
twice_before [] i d less c none = omega arith
twice_before (x ∷ xs) zero d less c none = Contains-nil (get_or (x ∷ xs) 0 d) c
twice_before (x ∷ xs) (suc i) d less c none =
    elim (Contains-cases x (take i xs) (get_or xs i d) c) [
      | inl is ↦ none.0 (subst (λ e. Contains xs e) (sym is) (Contains-get_or xs i d (omega arith)))
      | inr later ↦ twice_before xs i d (omega arith) later none.1
    ]

-- the last of a list, by its place
pub last-get : (node : Node) (nodes : List Node) (d : Node) → last node nodes ≡ get_or (node ∷ nodes) (length nodes) d
last-get node [] d = refl
last-get node (next ∷ nodes) d = last-get next nodes d

-- what holds of all but the last, by places
pub all_but_last : (P : Node → Type 0) (node : Node) (nodes : List Node) (d : Node) → ((k : ℕ) → k < length nodes → P (get_or (node ∷ nodes) k d)) → AllByRecursion P (but_last node nodes)
all_but_last P node [] d each = tt
all_but_last P node (next ∷ nodes) d each = (each 0 (omega arith), all_but_last P next nodes d (λ k less. each (suc k) (omega arith)))

pub but_last_all : (P : Node → Type 0) (node : Node) (nodes : List Node) (d : Node) → AllByRecursion P (but_last node nodes) → (k : ℕ) → k < length nodes → P (get_or (node ∷ nodes) k d)
but_last_all P node [] d all k less = absurd (omega arith)
but_last_all P node (next ∷ nodes) d all zero less = all.0
but_last_all P node (next ∷ nodes) d all (suc k) less = but_last_all P next nodes d all.1 k (omega arith)

-- what holds of the nodes inside, by places
pub inner_from : (P : Node → Type 0) (nodes : List Node) (d : Node) → ((k : ℕ) → 0 < k → k + 1 < length nodes → P (get_or nodes k d)) → AllByRecursion P (inner nodes)
inner_from P [] d each = tt
inner_from P (node ∷ []) d each = tt
inner_from P (node ∷ next ∷ nodes) d each = all_but_last P next nodes d (λ k less. each (suc k) (omega arith) (omega arith))

pub inner_at : (P : Node → Type 0) (nodes : List Node) (d : Node) → AllByRecursion P (inner nodes) → (k : ℕ) → 0 < k → k + 1 < length nodes → P (get_or nodes k d)
inner_at P [] d all k some less = absurd (omega arith)
inner_at P (node ∷ []) d all k some less = absurd (omega arith)
inner_at P (node ∷ next ∷ nodes) d all zero some less = absurd (omega arith)
inner_at P (node ∷ next ∷ nodes) d all (suc k) some less = but_last_all P next nodes d all k (omega arith)

pub centres-append : (xs ys : List Node) → centres (xs ++ ys) ≡ centres xs ++ centres ys
centres-append [] ys = refl
centres-append (Hexside side ∷ xs) ys = centres-append xs ys
centres-append (Centre first ∷ xs) ys = ap (λ (cs : List ℕ). first ∷ cs) (centres-append xs ys)

pub Decides-is_centre : (node : Node) → Decides (is_centre node) (IsCentre node)
Decides-is_centre (Hexside side) = Decides-never (λ n. n)
Decides-is_centre (Centre centre) = Decides-always tt

-- whether both ends are centres, by their places
pub Decides-ends : (nodes : List Node) → 0 < length nodes → Decides (is_centre (node_at nodes 0) && is_centre (node_at nodes (length nodes - 1))) (EndsAreCentres nodes)
Decides-ends [] some = absurd (omega arith)
Decides-ends (node ∷ nodes) some =
    let place : length (node ∷ nodes) - 1 ≡ length nodes = omega arith in
    rw (place, sym (last-get node nodes (Hexside 0)))
    (Decides-and (is_centre node) (is_centre (last node nodes)) (Decides-is_centre node) (Decides-is_centre (last node nodes)))

-- whether a node stands among others
pub Decides-has_node : (nodes : List Node) (node : Node) → Decides (list_any (λ other. same_node other node) nodes) (Contains nodes node)
Decides-has_node nodes node =
    Decides-like (list_any (λ other. same_node other node) nodes) (λ found. subst (λ n. Contains nodes n) found.2 found.1) (λ c. (node, c, refl))
    (Decides-list_any (λ other. same_node other node) (λ other. other ≡ node) nodes (λ other c. Decides-same_node other node))

module _ (nodes : List Node) where
  pub simple_next : (i : ℕ) → i < length nodes → NoneTwice (take i nodes) → list_any (λ other. same_node other (node_at nodes i)) (take i nodes) ≡ false → NoneTwice (take (i + 1) nodes)
  simple_next i less none fresh =
      rw (take_more nodes i (Hexside 0) less) (NoneTwice-push (take i nodes) (node_at nodes i) none (no (Decides-has_node (take i nodes) (node_at nodes i)) fresh))

  pub simple_broken : (i : ℕ) → i < length nodes → list_any (λ other. same_node other (node_at nodes i)) (take i nodes) ≡ true → Decides false (NoneTwice nodes)
  simple_broken i less before = Decides-never (twice_before nodes i (Hexside 0) less (yes (Decides-has_node (take i nodes) (node_at nodes i)) before))

  pub simple_done : (i : ℕ) → length nodes ≤ i → NoneTwice (take i nodes) → Decides true (NoneTwice nodes)
  simple_done i most none = Decides-always (rw (take_all i nodes most) at none)

-- a terminal node inside, by its place
module _ (net : Net) (nodes : List Node) where
  Decides-stops : (k : ℕ) → Decides (ltb 0 k && (ltb (k + 1) (length nodes) && is_terminal net (node_at nodes k))) ((0 < k) × ((k + 1 < length nodes) × IsTerminal net (node_at nodes k)))
  Decides-stops k =
      Decides-and (ltb 0 k) (ltb (k + 1) (length nodes) && is_terminal net (node_at nodes k)) (Decides-ltb 0 k)
      (Decides-and (ltb (k + 1) (length nodes)) (is_terminal net (node_at nodes k)) (Decides-ltb (k + 1) (length nodes)) (Decides-is_terminal net (node_at nodes k)))

  pub clear_broken : (k : ℕ) → (ltb 0 k && (ltb (k + 1) (length nodes) && is_terminal net (node_at nodes k))) ≡ true → Decides false (NoTerminalInside net nodes)
  clear_broken k stops =
      let at = yes (Decides-stops k) stops in
      Decides-never (λ clear. inner_at (λ node. IsTerminal net node → ⊥) nodes (Hexside 0) clear k at.0 at.1.0 at.1.1)

  pub clear_next : (i : ℕ) → ((k : ℕ) → k < i → 0 < k → k + 1 < length nodes → IsTerminal net (node_at nodes k) → ⊥)
      → (ltb 0 i && (ltb (i + 1) (length nodes) && is_terminal net (node_at nodes i))) ≡ false
      → (k : ℕ) → k < i + 1 → 0 < k → k + 1 < length nodes → IsTerminal net (node_at nodes k) → ⊥
  clear_next i before goes k less some inside terminal =
      elim (cases_eq k i) [
        | inl same ↦ no (Decides-stops i) goes (subst (λ j. (0 < j) × ((j + 1 < length nodes) × IsTerminal net (node_at nodes j))) same (some, (inside, terminal)))
        | inr differ ↦ before k (omega arith) some inside terminal
      ]

  pub clear_done : (i : ℕ) → length nodes ≤ i → ((k : ℕ) → k < i → 0 < k → k + 1 < length nodes → IsTerminal net (node_at nodes k) → ⊥) → Decides true (NoTerminalInside net nodes)
  clear_done i most each =
      Decides-always (inner_from (λ node. IsTerminal net node → ⊥) nodes (Hexside 0) (λ k some inside. each k (omega arith) some inside))

  pub Decides-has_token_on : Decides (list_any (λ node. has_token net node) nodes) ((node : Node) × Contains nodes node × HasToken net node)
  Decides-has_token_on = Decides-list_any (λ node. has_token net node) (λ node. HasToken net node) nodes (λ node c. Decides-has_token net node)

pub not_over : (limit : CentreLimit) (count : ℕ) → is_over limit count ≡ false → IsWithin limit count
not_over (AtMost most) count e = elim (cases_lt most count) [ inl more ↦ absurd (no (Decides-ltb most count) e more) | inr within ↦ within ]
not_over Unlimited count e = tt

-- the parts of a route
pub route_over : (net : Net) (limit : CentreLimit) (links : List ℕ) (nodes : List Node) → is_over limit (length (centres nodes)) ≡ true → Decides false (Route net limit (trip_over links nodes))
route_over net limit links nodes e = Decides-never (λ r. yes (Decides-is_over limit (length (centres nodes))) e r.counted)

pub route_way : (net : Net) (limit : CentreLimit) (links : List ℕ) (nodes : List Node) (way : Bool) → is_over limit (length (centres nodes)) ≡ false → Decides way (IsWay net links nodes)
    → Decides way (Route net limit (trip_over links nodes))
route_way net limit links nodes way e d =
    Decides-like way
    (λ w. record { path = (w.walk, w.simple); ends = w.ends; no_terminal = w.clear; token = w.token; counted = not_over limit (length (centres nodes)) e })
    (λ r. record { walk = r.path.0; simple = r.path.1; ends = r.ends; clear = r.no_terminal; token = r.token }) d

pub way_left : (net : Net) (links : List ℕ) (nodes : List Node) (token : Bool) → Walk net links nodes → NoneTwice nodes → EndsAreCentres nodes → NoTerminalInside net nodes
    → token ≡ list_any (λ node. has_token net node) nodes → Decides token (IsWay net links nodes)
way_left net links nodes token walk simple ends clear e =
    rw e (Decides-like (list_any (λ node. has_token net node) nodes) (λ t. record { walk = walk; simple = simple; ends = ends; clear = clear; token = t }) (λ w. w.token)
    (Decides-has_token_on net nodes))

module _ (net : Net) (links : List ℕ) (nodes : List Node) where
  pub wrong_count : (length nodes ≡ length links + 1 → ⊥) → Decides false (Walk net links nodes)
  wrong_count differ = Decides-never (λ walk. let h = walk_length net walk in differ (omega (arith, h.0)))

  pub walk_broken : (k : ℕ) → k < length links → (GoesAt net links nodes k → ⊥) → Decides false (Walk net links nodes)
  walk_broken k less stops = Decides-never (λ walk. stops (walk_at net walk k less))

  pub walk_next : (i : ℕ) → ((k : ℕ) → k < i → GoesAt net links nodes k) → GoesAt net links nodes i → (k : ℕ) → k < i + 1 → GoesAt net links nodes k
  walk_next i before here k less =
      elim (cases_eq k i) [ inl same ↦ subst (λ j. GoesAt net links nodes j) (sym same) here | inr differ ↦ before k (omega arith) ]

  pub walk_done : (i : ℕ) → length links ≤ i → 0 < length links → length nodes ≡ length links + 1 → ((k : ℕ) → k < i → GoesAt net links nodes k) → Decides true (Walk net links nodes)
  walk_done i most some same each = Decides-always (walk_from net links nodes (omega (arith, same)) some (λ k less. each k (omega arith)))

pub centres-next : (nodes : List Node) (i : ℕ) (old new : List ℕ) → i < length nodes → old ≡ centres (take i nodes) → new ≡ old ++ centres (node_at nodes i ∷ []) → new ≡ centres (take (i + 1) nodes)
centres-next nodes i old new less so_far pushed =
    pushed ∙ ap (λ (cs : List ℕ). cs ++ centres (node_at nodes i ∷ [])) so_far ∙ sym (centres-append (take i nodes) (node_at nodes i ∷ []))
    ∙ ap centres (sym (take_more nodes i (Hexside 0) less))

pub nonempty : (n : ℕ) → (n == 0) ≡ false → 0 < n
nonempty n e = elim (cases_eq n 0) [ inl same ↦ absurd (no (Decides-eqb n 0) e same) | inr differ ↦ omega arith ]
