-- Where the links that hang together lead to no centre, no way leads on.
use Rattle.std.proofs.Common.{◌≡◌, ℕ, ◌+◌, ◌<◌, ◌≤◌, ◌⊎◌, Bool, true, false, not, List, [], ◌∷◌, ◌++◌, length, get_or, refl, sym, ◌∙◌, ap, subst, inl, inr, arith}
use Rattle.std.specs.List.{Contains, filter, list_any}
use Rattle.std.proofs.lemmas.Bool.{cases_eq, false≢true}
use Rattle.std.proofs.lemmas.List.{get_or_default, get_or_append_left, length-append}
use Rattle.std.proofs.lemmas.List.Elements.{Contains-append_left, Contains-append_right, Contains-append_cases}
use Rattle.std.proofs.lemmas.List.Filters.{length-filter_both}
use Rattle.std.proofs.lemmas.List.Folds.{list_any-from_Any}
use Rattle.rr_routes.specs.declared.net.Node.{Node}
use Rattle.rr_routes.specs.declared.net.Node.TheVariants.{Hexside, Centre}
use Rattle.rr_routes.specs.Net.{Net, Joins, Touches, IsCentre}
use Rattle.rr_routes.proofs.Elements.{Contains-here}
use Rattle.rr_routes.proofs.Walks.{Joins-at_to}
use Rattle.rr_checker.proofs.StepLemmas.{to_true, to_false}
use Rattle.rr_checker.proofs.OwnLemmas.{Decides-is_shared, SideOf}
use Rattle.rr_referee.specs.Trips.Near.{meets, has_centre, IsStranded}
use Rattle.rr_referee.specs.Trips.Ways.{apart_from, LeadsOn, GoesOn}
use Rattle.rr_referee.specs.Trips.Ways.LeadsOn.{to_centre, over_hexside}
use Rattle.rr_referee.proofs.TripsLemmas.LinkLemmas.{apart_sound, filter_sound, filter_complete, not_true}
use Rattle.rr_referee.proofs.TripsLemmas.WayLemmas.{leads_touching}

module _ (net : Net) where
  meets_at : (link other side : ℕ) → Touches net link (Hexside side) → Touches net other (Hexside side) → meets net link other ≡ true
  meets_at link other side one two =
      let beside : SideOf net [] 0 (other ∷ []) (Hexside side) = (other, Contains-here other [], two) in
      to_true (meets net link other) (Decides-is_shared net [] 0 (link ∷ []) (other ∷ [])) (
        link,
        Contains-here link [],
        (
          one.0,
          one.1,
          elim one.2 [
            | inl is ↦ inl (subst (λ n. SideOf net [] 0 (other ∷ []) n) is beside)
            | inr is ↦ inr (subst (λ n. SideOf net [] 0 (other ∷ []) n) is beside)
          ],
        ),
      )

  joins_centre : (link : ℕ) (from : Node) (centre : ℕ) → Joins net link from (Centre centre) → has_centre net link ≡ true
  joins_centre link from centre joins = elim joins.2 [
    | inl ends ↦ rw joins.1 (rw (sym ends.1) refl)
    | inr ends ↦ let e = ends.1 in cc
  ]

  none_has : (links : List ℕ) → list_any (has_centre net) links ≡ false → (x : ℕ) → Contains links x → has_centre net x ≡ false
  none_has links none x c =
      to_false (has_centre net x) (λ e. e, λ e. e) (λ e. false≢true (sym none ∙ list_any-from_Any (has_centre net) links (c.0, x, c.1, c.2, e)))

  split_count : (link : ℕ) (xs : List ℕ) → length (filter (meets net link) xs) + length (filter (λ x. not (meets net link x)) xs) ≡ length xs
  split_count link xs = length-filter_both (meets net link) (λ x. not (meets net link x)) (λ x. refl) xs

  split_cases : (link : ℕ) (xs : List ℕ) (x : ℕ) → Contains xs x → Contains (filter (meets net link) xs) x ⊎ Contains (filter (λ y. not (meets net link y)) xs) x
  split_cases link xs x c = decided (meets net link x) refl
    where
      decided : (b : Bool) → meets net link x ≡ b → Contains (filter (meets net link) xs) x ⊎ Contains (filter (λ y. not (meets net link y)) xs) x
      decided true e = inl (filter_complete (meets net link) xs x c e)
      decided false e = inr (filter_complete (λ y. not (meets net link y)) xs x c (ap not e))

  -- Of the links that are left, these are found near the link, and the rest isn't yet: no centre is near, and the rest meets
  -- neither the link nor the first so many that are near.
  pub record IsFlood (link : ℕ) (left : List ℕ) (done : ℕ) (near rest : List ℕ) : Type 0 where
    pub within : done ≤ length near
    pub count : length near + length rest ≡ length left
    pub parted : (x : ℕ) → Contains left x → Contains near x ⊎ Contains rest x
    pub beyond : (x : ℕ) → Contains rest x → meets net link x ≡ false
    pub closed : (k x : ℕ) → k < done → Contains rest x → meets net (get_or near k 0) x ≡ false
    pub plain : (x : ℕ) → Contains near x → has_centre net x ≡ false

  pub flood_first : (link : ℕ) (left : List ℕ) → list_any (has_centre net) (filter (meets net link) left) ≡ false
      → IsFlood link left 0 (filter (meets net link) left) (filter (λ x. not (meets net link x)) left)
  flood_first link left none = record {
    within = omega arith;
    count = split_count link left;
    parted = λ x c. split_cases link left x c;
    beyond = λ x c. not_true (meets net link x) (filter_sound (λ y. not (meets net link y)) left x c).1;
    closed = λ k x less c. absurd (omega arith);
    plain = λ x c. none_has (filter (meets net link) left) none x c;
  }

  pub flood_next : (link : ℕ) (left : List ℕ) (done : ℕ) (near rest : List ℕ) (next : ℕ) → IsFlood link left done near rest → done < length near → next ≡ get_or near done 0
      → list_any (has_centre net) (filter (meets net next) rest) ≡ false
      → IsFlood link left (done + 1) (near ++ filter (meets net next) rest) (filter (λ x. not (meets net next x)) rest)
  flood_next link left done near rest next f less is none = record {
    within = omega (arith, less, length-append near (filter (meets net next) rest));
    count = omega (arith, f.count, split_count next rest, length-append near (filter (meets net next) rest));
    parted = λ x c. elim (f.parted x c) [
      | inl old ↦ inl (Contains-append_left near (filter (meets net next) rest) x old)
      | inr far ↦ elim (split_cases next rest x far) [
        | inl met ↦ inl (Contains-append_right near (filter (meets net next) rest) x met)
        | inr other ↦ inr other
      ]
    ];
    beyond = λ x c. f.beyond x (filter_sound (λ y. not (meets net next y)) rest x c).0;
    closed = λ k x small c.
        let h = filter_sound (λ y. not (meets net next y)) rest x c in
        elim (cases_eq k done) [
          | inl same ↦
              let here : get_or (near ++ filter (meets net next) rest) k 0 ≡ next =
              subst (λ (j : ℕ). get_or (near ++ filter (meets net next) rest) j 0 ≡ next) (sym same)
              (get_or_append_left near (filter (meets net next) rest) 0 done less ∙ sym is) in
              subst (λ (l : ℕ). meets net l x ≡ false) (sym here) (not_true (meets net next x) h.1)
          | inr differ ↦
              let before : k < done = omega (arith, small, differ) in
              subst (λ (l : ℕ). meets net l x ≡ false) (sym (get_or_append_left near (filter (meets net next) rest) 0 k (omega (arith, before, less))))
              (f.closed k x before h.0)
        ];
    plain = λ x c. elim (Contains-append_cases near (filter (meets net next) rest) x c) [
      | inl old ↦ f.plain x old
      | inr new ↦ none_has (filter (meets net next) rest) none x new
    ];
  }

  -- where all that are near were looked at, no way leads on over one of them
  no_way : (link : ℕ) (left : List ℕ) (done : ℕ) (near rest : List ℕ) → IsFlood link left done near rest → length near ≤ done
      → (own : List ℕ) (next : ℕ) (node : Node) → LeadsOn net own next node → ((other : ℕ) → Contains own other → Contains left other) → Contains near next → ⊥
  no_way link left done near rest f most own next node (to_centre _ _ _ centre joins) all c =
      false≢true (sym (f.plain next c) ∙ joins_centre next node centre joins)
  no_way link left done near rest f most own next node (over_hexside _ _ _ side after joins passes free onward) all c =
      elim (f.parted after (all after (apart_sound net node own after free).0)) [
        | inl by ↦ no_way link left done near rest f most (apart_from net node own) after (Hexside side) onward
            (λ other d. all other (apart_sound net node own other d).0) by
        | inr far ↦
            let here : get_or near c.0 0 ≡ next = get_or_default near c.0 0 next c.1 ∙ c.2 in
            let apart : meets net next after ≡ false = subst (λ (l : ℕ). meets net l after ≡ false) here (f.closed c.0 after (omega (arith, c.1, most)) far) in
            false≢true (sym apart ∙ meets_at next after side (Joins-at_to net next node (Hexside side) joins)
            (leads_touching net (apart_from net node own) after (Hexside side) onward))
      ]

  pub flood_stranded : (link : ℕ) (left : List ℕ) (done : ℕ) (near rest : List ℕ) → IsFlood link left done near rest → length near ≤ done → IsStranded net link left
  flood_stranded link left done near rest f most side next touching c way =
      elim (f.parted next c) [
        | inl by ↦ no_way link left done near rest f most left next (Hexside side) way (λ other d. d) by
        | inr far ↦ false≢true (sym (f.beyond next far) ∙ meets_at link next side touching (leads_touching net left next (Hexside side) way))
      ]

-- so no way goes on from a link that is stranded
pub stranded_nowhere : (net : Net) (own : List ℕ) (link : ℕ) (from to : Node) → IsStranded net link (apart_from net from own) → (IsCentre to → ⊥)
    → (next : ℕ) → Contains (apart_from net from own) next → GoesOn net link from to next → LeadsOn net (apart_from net from own) next to → ⊥
stranded_nowhere net own link from (Centre centre) alone inside next free goes rest = inside tt
stranded_nowhere net own link from (Hexside side) alone inside next free goes rest =
    alone side next (Joins-at_to net link from (Hexside side) goes.joins) free rest
