-- A way leads on just where a path does.
use Rattle.std.proofs.Common.{◌≡◌, ℕ, ◌+◌, ◌<◌, false, List, [], ◌∷◌, length, get_or, refl, sym, ◌∙◌, subst, inl, inr, arith}
use Rattle.std.specs.List.{AllByRecursion, Contains, slice_get}
use Rattle.std.proofs.lemmas.Bool.{cases_eq}
use Rattle.std.proofs.lemmas.List.{get_or_default}
use Rattle.rr_routes.specs.declared.net.Node.{Node}
use Rattle.rr_routes.specs.declared.net.Node.TheVariants.{Hexside, Centre}
use Rattle.rr_routes.specs.Net.{Net, Joins, Touches, IsCentre, IsTerminal}
use Rattle.rr_routes.specs.Routes.{Walk, one_link, goes_on, NoneTwice, last, but_last, centres}
use Rattle.rr_routes.proofs.Elements.{Contains-here, Contains-there, Contains-cases, Contains-nil, Contains-single}
use Rattle.rr_routes.proofs.Walks.{Joins-at_from, Joins-at_to, Walk-touched}
use Rattle.rr_checker.specs.Own.{touches}
use Rattle.rr_checker.specs.Trips.{far_end}
use Rattle.rr_checker.proofs.FollowLemmas.{far_end_to}
use Rattle.rr_checker.proofs.OwnLemmas.{Decides-touches}
use Rattle.rr_checker.proofs.StepLemmas.{no}
use Rattle.rr_referee.specs.Trips.Ways.{apart_from, LeadsOn, GoesOn}
use Rattle.rr_referee.specs.Trips.Ways.LeadsOn.{to_centre, over_hexside}
use Rattle.rr_referee.proofs.TripsLemmas.LinkLemmas.{apart_sound, apart_complete, far_joins}

module _ (net : Net) where
  -- a link of a walk touches each of its nodes
  node_touched : {links : List ℕ} {nodes : List Node} → Walk net links nodes → (node : Node) → Contains nodes node → (link : ℕ) × Contains links link × Touches net link node
  node_touched (one_link link from to joins) node c =
      elim (Contains-cases from (to ∷ []) node c) [
        | inl is ↦ (link, Contains-here link [], subst (λ n. Touches net link n) is (Joins-at_from net link from to joins))
        | inr d ↦ (link, Contains-here link [], subst (λ n. Touches net link n) (Contains-single to node d) (Joins-at_to net link from to joins))
      ]
  node_touched (goes_on link next links from to nodes joins passes rest) node c =
      elim (Contains-cases from (to ∷ nodes) node c) [
        | inl is ↦ (link, Contains-here link (next ∷ links), subst (λ n. Touches net link n) is (Joins-at_from net link from to joins))
        | inr d ↦ let h = node_touched rest node d in (h.0, Contains-there link (next ∷ links) h.0 h.1, h.2)
      ]

  -- one end of a link is a hexside
  not_both : (link : ℕ) (from : Node) (centre : ℕ) → Joins net link from (Centre centre) → Centre centre ≡ from → ⊥
  not_both link from centre joins same = elim joins.2 [ inl ends ↦ let e = ends.0 in cc | inr ends ↦ let e = ends.1 in cc ]

  -- the path on which a way leads over the link from the node to a centre
  pub record WayOf (own : List ℕ) (link : ℕ) (from : Node) : Type 0 where
    pub links : List ℕ
    pub to : Node
    pub behind : List Node
    pub walk : Walk net (link ∷ links) (from ∷ to ∷ behind)
    pub none_twice : NoneTwice (from ∷ to ∷ behind)
    pub within : (other : ℕ) → Contains links other → Contains (apart_from net from own) other
    pub ends : IsCentre (last to behind)
    pub clear : AllByRecursion (λ node. IsTerminal net node → ⊥) (but_last to behind)
    pub counts_one : length (centres (to ∷ behind)) ≡ 1

  pub way_of : (own : List ℕ) (link : ℕ) (from : Node) → LeadsOn net own link from → WayOf own link from
  way_of own link from (to_centre _ _ _ centre joins) = record {
    links = [];
    to = Centre centre;
    behind = [];
    walk = one_link link from (Centre centre) joins;
    none_twice = (λ c. not_both link from centre joins (Contains-single (Centre centre) from c), (λ c. Contains-nil (Centre centre) c, tt));
    within = λ other c. absurd (Contains-nil other c);
    ends = tt;
    clear = tt;
    counts_one = refl;
  }
  way_of own link from (over_hexside _ _ _ side next joins passes free rest) =
      let w = way_of (apart_from net from own) next (Hexside side) rest in
      let within : (other : ℕ) → Contains (next ∷ w.links) other → Contains (apart_from net from own) other = λ other c.
      elim (Contains-cases next w.links other c) [
        | inl is ↦ subst (λ l. Contains (apart_from net from own) l) is free
        | inr d ↦ (apart_sound net (Hexside side) (apart_from net from own) other (w.within other d)).0
      ] in
      record {
        links = next ∷ w.links;
        to = Hexside side;
        behind = w.to ∷ w.behind;
        walk = goes_on link next w.links from (Hexside side) (w.to ∷ w.behind) joins passes w.walk;
        none_twice = (
          λ c. let h = node_touched w.walk from c in (apart_sound net from own h.0 (within h.0 h.1)).1 h.2,
          w.none_twice,
        );
        within = within;
        ends = w.ends;
        clear = (λ stops. stops, w.clear);
        counts_one = w.counts_one;
      }

  -- a path that ends at a centre leads to the first one
  pub leads : (own : List ℕ) (first : ℕ) (links : List ℕ) (from : Node) (nodes : List Node) → Walk net (first ∷ links) (from ∷ nodes) → NoneTwice (from ∷ nodes)
      → IsCentre (last from nodes) → ((link : ℕ) → Contains links link → Contains own link) → LeadsOn net own first from
  leads own first _ from _ (one_link _ _ (Hexside side) joins) none ends all = absurd ends
  leads own first _ from _ (one_link _ _ (Centre centre) joins) none ends all = to_centre own first from centre joins
  leads own first _ from _ (goes_on _ next links _ (Centre centre) nodes joins passes rest) none ends all = to_centre own first from centre joins
  leads own first _ from _ (goes_on _ next links _ (Hexside side) nodes joins passes rest) none ends all =
      let free : (link : ℕ) → Contains (next ∷ links) link → Contains (apart_from net from own) link = λ link c.
      apart_complete net from own link (all link c) (λ at. none.0 (Walk-touched net rest link from c at)) in
      over_hexside own first from side next joins passes (free next (Contains-here next links))
      (leads (apart_from net from own) next links (Hexside side) nodes rest none.1 ends (λ link c. free link (Contains-there next links link c)))

  pub leads_touching : (own : List ℕ) (link : ℕ) (from : Node) → LeadsOn net own link from → Touches net link from
  leads_touching own link from (to_centre _ _ _ centre joins) = Joins-at_from net link from (Centre centre) joins
  leads_touching own link from (over_hexside _ _ _ side next joins passes free rest) = Joins-at_from net link from (Hexside side) joins

  -- no way leads over a link that doesn't touch the node
  pub not_touching : (own : List ℕ) (link : ℕ) (from : Node) → touches net link from ≡ false → LeadsOn net own link from → ⊥
  not_touching own link from e way = no (Decides-touches net link from) e (leads_touching own link from way)

  -- a link that leads to a centre
  pub at_centre : (own : List ℕ) (link : ℕ) (from to : Node) → Touches net link from → to ≡ far_end (slice_get net.links link) from → IsCentre to → LeadsOn net own link from
  at_centre own link from (Centre centre) at is ends =
      to_centre own link from centre (subst (λ n. Joins net link from n) (sym is) (far_joins net link from at))
  at_centre own link from (Hexside side) at is ends = absurd ends

  -- a link that leads to a hexside from which a way goes on
  pub goes_further : (own : List ℕ) (link : ℕ) (from to : Node) (next : ℕ) → GoesOn net link from to next → Contains (apart_from net from own) next
      → LeadsOn net (apart_from net from own) next to → LeadsOn net own link from
  goes_further own link from (Centre centre) next goes free rest = to_centre own link from centre goes.joins
  goes_further own link from (Hexside side) next goes free rest = over_hexside own link from side next goes.joins goes.passes free rest

  -- where the link leads to no centre, and no way goes on from its end, none leads over it
  pub goes_nowhere : (own : List ℕ) (link : ℕ) (from to : Node) → to ≡ far_end (slice_get net.links link) from → (IsCentre to → ⊥)
      → ((next : ℕ) → Contains (apart_from net from own) next → GoesOn net link from to next → LeadsOn net (apart_from net from own) next to → ⊥)
      → LeadsOn net own link from → ⊥
  goes_nowhere own link from to is inside none (to_centre _ _ _ centre joins) =
      inside (subst IsCentre (sym (far_end_to net link from (Centre centre) joins) ∙ sym is) tt)
  goes_nowhere own link from to is inside none (over_hexside _ _ _ side next joins passes free rest) =
      let same : Hexside side ≡ to = sym (far_end_to net link from (Hexside side) joins) ∙ sym is in
      let goes : GoesOn net link from (Hexside side) next = record {
        joins = joins;
        passes = passes;
        leads = far_joins net next (Hexside side) (leads_touching (apart_from net from own) next (Hexside side) rest);
      } in
      none next free (subst (λ n. GoesOn net link from n next) same goes) (subst (λ n. LeadsOn net (apart_from net from own) next n) same rest)

-- what holds of no element so far, and not of the next
pub none_more : (P : ℕ → Type 0) (xs : List ℕ) (i : ℕ) → ((k : ℕ) → k < i → P (get_or xs k 0) → ⊥) → (P (get_or xs i 0) → ⊥) → (k : ℕ) → k < i + 1 → P (get_or xs k 0) → ⊥
none_more P xs i before here k less =
    elim (cases_eq k i) [
      | inl same ↦ subst (λ j. P (get_or xs j 0) → ⊥) (sym same) here
      | inr differ ↦ before k (omega arith)
    ]

-- what holds at no place holds of no element
pub none_at_all : (P : ℕ → Type 0) (xs : List ℕ) → ((k : ℕ) → k < length xs → P (get_or xs k 0) → ⊥) → (x : ℕ) → Contains xs x → P x → ⊥
none_at_all P xs none x c p =
    none c.0 c.1 (subst P (sym (get_or_default xs c.0 0 x c.1 ∙ c.2)) p)
