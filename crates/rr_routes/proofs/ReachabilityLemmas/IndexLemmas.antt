-- Places by the keys at which they are noted.
use Rattle.std.proofs.Common.{◌≡◌, ◌≢◌, ℕ, ◌+◌, ◌<◌, ◌≤◌, ◌%◌, ◌⊎◌, Bool, true, false, List, [], ◌∷◌, ◌++◌, length, get_or, max, replicate, refl, sym, ◌∙◌, ap, subst, inl, inr, arith}
use Rattle.std.specs.List.{Contains}
use Rattle.std.proofs.lemmas.Bool.{cases_eq, cases_lt, false≢true}
use Rattle.std.proofs.lemmas.List.{get_or_default, get_or-set_same, get_or-set_other, get_or_past, get_or-replicate, length-set, length-replicate}
use Rattle.std.proofs.lemmas.List.Elements.{Contains-push, Contains-push_cases, Contains-append_left}
use Rattle.rr_routes.specs.Reachability.Reach.{followers}
use Rattle.rr_routes.specs.Reachability.Index.{IsIndexOf, StandsAt, noted, noted_at, nothing_noted}
use Rattle.rr_routes.specs.Reachability.Places.{ArePassing, ArePlaces}
use Rattle.rr_routes.proofs.Elements.{Contains-nil}

-- two keys have one row
abbrev pub ShareRow : List (List ℕ) → ℕ → ℕ → Type 0
ShareRow index key other = other % length index ≡ key % length index

pub row_within : (count key : ℕ) → 0 < count → key % count < count
row_within count key some = omega arith

-- nothing stands in any row
pub some_rows : (count : ℕ) → 0 < length (nothing_noted count)
some_rows count = omega (arith, length-replicate {A = List ℕ} (max count 1) [])

pub none_at : (count key : ℕ) → noted_at (nothing_noted count) key ≡ []
none_at count key = none_in (max count 1) (key % length (nothing_noted count))
  where
    none_in : (rows row : ℕ) → followers (replicate rows []) row ≡ []
    none_in rows row = elim (cases_lt row rows) [
      | inl inside ↦ get_or-replicate rows row [] [] inside
      | inr past ↦ get_or_past (replicate rows []) row [] (omega (arith, past, length-replicate {A = List ℕ} rows []))
    ]

-- what stands in each row when one place more was noted
pub as_many_rows : (index : List (List ℕ)) (key place : ℕ) → length (noted index key place) ≡ length index
as_many_rows index key place = length-set index (key % length index) (noted_at index key ++ place ∷ [])

pub row_of_key : (index : List (List ℕ)) (key place other : ℕ) → 0 < length index → ShareRow index key other
    → noted_at (noted index key place) other ≡ noted_at index other ++ place ∷ []
row_of_key index key place other some same =
    ap (λ (n : ℕ). followers (noted index key place) (other % n)) (as_many_rows index key place) ∙ ap (λ (row : ℕ). followers (noted index key place) row) same
    ∙ get_or-set_same index (key % length index) (noted_at index key ++ place ∷ []) [] (row_within (length index) key some)
    ∙ ap (λ (row : ℕ). followers index row ++ place ∷ []) (sym same)

pub row_of_another : (index : List (List ℕ)) (key place other : ℕ) → other % length index ≢ key % length index
    → noted_at (noted index key place) other ≡ noted_at index other
row_of_another index key place other differ =
    ap (λ (n : ℕ). followers (noted index key place) (other % n)) (as_many_rows index key place)
    ∙ get_or-set_other index (key % length index) (other % length index) (noted_at index key ++ place ∷ []) [] differ

-- no place is at any key
abbrev pub Nowhere : ℕ → ℕ → Type 0
Nowhere key place = ⊥

pub index_nothing : (count : ℕ) (index : List (List ℕ)) → index ≡ nothing_noted count → IsIndexOf Nowhere index
index_nothing count index e = subst (λ (rows : List (List ℕ)). IsIndexOf Nowhere rows) (sym e) (record {
  some = some_rows count;
  sound = λ key place c. absurd (Contains-nil place (subst (λ (places : List ℕ). Contains places place) (none_at count key) c));
  complete = λ key place none. absurd none;
})

-- the same places at the same keys
pub index_same : (P Q : ℕ → ℕ → Type 0) (index : List (List ℕ)) → ((key place : ℕ) → P key place → Q key place)
    → ((key place : ℕ) → Q key place → P key place) → IsIndexOf P index → IsIndexOf Q index
index_same P Q index to from ix = record {
  some = ix.some;
  sound = λ key place c. let found = ix.sound key place c in (found.0, to found.0 place found.1);
  complete = λ key place q. ix.complete key place (from key place q);
}

-- one place more
abbrev pub AlsoAt : (ℕ → ℕ → Type 0) → ℕ → ℕ → ℕ → ℕ → Type 0
AlsoAt IsAt key place other also = IsAt other also ⊎ ((key ≡ other) × (place ≡ also))

pub index_noted : (IsAt : ℕ → ℕ → Type 0) (index : List (List ℕ)) (key place : ℕ) → IsIndexOf IsAt index → IsIndexOf (AlsoAt IsAt key place) (noted index key place)
index_noted IsAt index key place ix = record {
  some = omega (arith, ix.some, as_many_rows index key place);
  sound = sound;
  complete = complete;
}
  where
    at_row : (other also : ℕ) → noted_at (noted index key place) other ≡ noted_at index other ++ place ∷ [] → Contains (noted_at index other ++ place ∷ []) also
        → Contains (noted_at (noted index key place) other) also
    at_row other also e c = subst (λ (places : List ℕ). Contains places also) (sym e) c

    sound : (other also : ℕ) → Contains (noted_at (noted index key place) other) also → (at : ℕ) × AlsoAt IsAt key place at also
    sound other also c = elim (cases_eq (other % length index) (key % length index)) [
      | inl same ↦ elim (Contains-push_cases (noted_at index other) place also (subst (λ (places : List ℕ). Contains places also) (row_of_key index key place other ix.some same) c)) [
        | inl old ↦ let found = ix.sound other also old in (found.0, inl found.1)
        | inr is ↦ (key, inr (refl, is))
      ]
      | inr differ ↦ let found = ix.sound other also (subst (λ (places : List ℕ). Contains places also) (row_of_another index key place other differ) c) in (found.0, inl found.1)
    ]

    complete : (other also : ℕ) → AlsoAt IsAt key place other also → Contains (noted_at (noted index key place) other) also
    complete other also (inl at) = elim (cases_eq (other % length index) (key % length index)) [
      | inl same ↦ at_row other also (row_of_key index key place other ix.some same) (Contains-append_left (noted_at index other) (place ∷ []) also (ix.complete other also at))
      | inr differ ↦ subst (λ (places : List ℕ). Contains places also) (sym (row_of_another index key place other differ)) (ix.complete other also at)
    ]
    complete other also (inr is) =
        let same : ShareRow index key other = ap (λ (k : ℕ). k % length index) (sym is.0) in
        at_row other also (row_of_key index key place other ix.some same)
        (subst (λ (p : ℕ). Contains (noted_at index other ++ place ∷ []) p) is.1 (Contains-push (noted_at index other) place))

-- items by their keys
module _ {X : Type 0} (key_of : X → ℕ) (items : List X) where
  pub items_first : (count : ℕ) (index : List (List ℕ)) → index ≡ nothing_noted count → IsIndexOf (StandsAt key_of items 0) index
  items_first count index e =
      index_same Nowhere (StandsAt key_of items 0) index (λ key place none. absurd none) (λ key place d. absurd (omega (arith, d.0))) (index_nothing count index e)

  -- the next item's place is noted at its key
  pub items_next : (n : ℕ) (index new : List (List ℕ)) (item : X) → n < length items → item ≡ get_or items n item → IsIndexOf (StandsAt key_of items n) index
      → new ≡ noted index (key_of item) n → IsIndexOf (StandsAt key_of items (n + 1)) new
  items_next n index new item inside here ix is =
      rw is (index_same (AlsoAt (StandsAt key_of items n) (key_of item) n) (StandsAt key_of items (n + 1)) (noted index (key_of item) n) to back
      (index_noted (StandsAt key_of items n) index (key_of item) n ix))
    where
      key_here : (d : X) → key_of (get_or items n d) ≡ key_of item
      key_here d = ap key_of (get_or_default items n d item inside ∙ sym here)

      to : (key place : ℕ) → AlsoAt (StandsAt key_of items n) (key_of item) n key place → StandsAt key_of items (n + 1) key place
      to key place (inl d) = (omega (arith, d.0), d.1)
      to key place (inr e) = (omega (arith, e.1), λ d. subst (λ (j : ℕ). key_of (get_or items j d) ≡ key) e.1 (key_here d ∙ e.0))

      back : (key place : ℕ) → StandsAt key_of items (n + 1) key place → AlsoAt (StandsAt key_of items n) (key_of item) n key place
      back key place d = elim (cases_eq place n) [
        | inl same ↦ inr (sym (key_here item) ∙ subst (λ (j : ℕ). key_of (get_or items j item) ≡ key) same (d.1 item), sym same)
        | inr differ ↦ inl (omega (arith, d.0, differ), d.1)
      ]

  pub items_done : (n : ℕ) (index : List (List ℕ)) → n ≡ length items → IsIndexOf (StandsAt key_of items n) index → IsIndexOf (StandsAt key_of items (length items)) index
  items_done n index all ix = subst (λ (m : ℕ). IsIndexOf (StandsAt key_of items m) index) all ix

  -- where only items of one key pass a test, those that pass are found among what is noted at the key
  pub found_among : (index : List (List ℕ)) (key : ℕ) (test : X → Bool) (passes : ℕ → Bool) (places : List ℕ) → IsIndexOf (StandsAt key_of items (length items)) index
      → ((item : X) → test item ≡ true → key_of item ≡ key) → ((k : ℕ) (d : X) → k < length items → passes k ≡ test (get_or items k d))
      → ((k : ℕ) → length items ≤ k → passes k ≡ false) → ArePassing passes (noted_at index key) places → ArePlaces test items (length items) places
  found_among index key test passes places ix alike inside outside those = record { sound = sound; complete = complete }
    where
      sound : (k : ℕ) (d : X) → Contains places k → (k < length items) × (test (get_or items k d) ≡ true)
      sound k d c =
          let there : passes k ≡ true = ((those k).0 c).1 in
          elim (cases_lt k (length items)) [
            | inl less ↦ (less, sym (inside k d less) ∙ there)
            | inr past ↦ absurd (false≢true (sym (outside k past) ∙ there))
          ]

      complete : (k : ℕ) (d : X) → k < length items → test (get_or items k d) ≡ true → Contains places k
      complete k d less t =
          let here : (e : X) → key_of (get_or items k e) ≡ key = λ e. ap key_of (get_or_default items k e d less) ∙ alike (get_or items k d) t in
          (those k).1 (ix.complete key k (less, here), inside k d less ∙ t)
