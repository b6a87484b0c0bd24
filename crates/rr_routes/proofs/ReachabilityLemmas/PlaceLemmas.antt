-- The places of the items that pass a test, and of those with a mark.
use Rattle.std.proofs.Common.{◌≡◌, ℕ, zero, suc, ◌+◌, ◌<◌, Bool, true, false, List, [], ◌∷◌, ◌++◌, length, get_or, take, refl, sym, ◌∙◌, ap, subst, inl, inr, arith}
use Rattle.std.specs.List.{Contains}
use Rattle.std.proofs.lemmas.List.{get_or_default, get_or_append_left, get_or_past, get_or_push, length_push, take_more}
use Rattle.std.proofs.lemmas.List.Elements.{Contains-push, Contains-push_cases, Contains-append_left}
use Rattle.std.proofs.lemmas.Bool.{cases_eq, false≢true}
use Rattle.rr_routes.specs.Reachability.Reach.{followers, IsMarked}
use Rattle.rr_routes.specs.Reachability.Places.{ArePassing, ArePlaces, AreMarkedItems, HasMark, IsGraphOf, marked_of}

pub none_here : {X : Type 0} (x : X) → Contains [] x → ⊥
none_here x c = omega (arith, c.1)

-- the item at a place, at any default
pub item_here : {X : Type 0} (items : List X) (n : ℕ) (item d : X) → n < length items → item ≡ get_or items n item → get_or items n d ≡ item
item_here items n item d h e = get_or_default items n d item h ∙ sym e

pub places_first : {X : Type 0} (test : X → Bool) (items : List X) → ArePlaces test items 0 []
places_first test items = record { sound = λ k d c. absurd (none_here k c); complete = λ k d h t. absurd (omega arith) }

-- no item passes
pub places_none : {X : Type 0} (test : X → Bool) (items : List X) (n : ℕ) → ((item : X) → test item ≡ false) → ArePlaces test items n []
places_none test items n fails = record {
  sound = λ k d c. absurd (none_here k c);
  complete = λ k d h t. absurd (false≢true (sym (fails (get_or items k d)) ∙ t));
}

pub places_next_yes : {X : Type 0} (test : X → Bool) (items : List X) (n : ℕ) (places new : List ℕ) (item : X) → ArePlaces test items n places → n < length items → item ≡ get_or items n item → test item ≡ true → new ≡ places ++ n ∷ [] → ArePlaces test items (n + 1) new
places_next_yes {X} test items n places new item w h e passes pushed = rw pushed (record { sound = sound; complete = complete })
  where
    here : (d : X) → test (get_or items n d) ≡ true
    here d = ap test (item_here items n item d h e) ∙ passes

    sound : (k : ℕ) (d : X) → Contains (places ++ n ∷ []) k → (k < n + 1) × (test (get_or items k d) ≡ true)
    sound k d c =
        elim (Contains-push_cases places n k c) [
          | inl old ↦ (omega (arith, (w.sound k d old).0), (w.sound k d old).1)
          | inr same ↦ (omega (arith, same), subst (λ (j : ℕ). test (get_or items j d) ≡ true) same (here d))
        ]

    complete : (k : ℕ) (d : X) → k < n + 1 → test (get_or items k d) ≡ true → Contains (places ++ n ∷ []) k
    complete k d less t =
        elim (cases_eq k n) [
          | inl same ↦ subst (λ (j : ℕ). Contains (places ++ n ∷ []) j) (sym same) (Contains-push places n)
          | inr other ↦ Contains-append_left places (n ∷ []) k (w.complete k d (omega arith) t)
        ]

pub places_next_no : {X : Type 0} (test : X → Bool) (items : List X) (n : ℕ) (places : List ℕ) (item : X) → ArePlaces test items n places → n < length items → item ≡ get_or items n item → test item ≡ false → ArePlaces test items (n + 1) places
places_next_no test items n places item w h e fails = record {
  sound = λ k d c. (omega (arith, (w.sound k d c).0), (w.sound k d c).1);
  complete = λ k d less t.
      elim (cases_eq k n) [
        | inl same ↦ absurd (false≢true (sym (ap test (item_here items n item d h e) ∙ fails) ∙ subst (λ (j : ℕ). test (get_or items j d) ≡ true) same t))
        | inr other ↦ w.complete k d (omega arith) t
      ];
}

-- those of the places so far that pass, with one more
pub passing_first : (test : ℕ → Bool) → ArePassing test [] []
passing_first test place = (λ c. absurd (none_here place c), λ d. absurd (none_here place d.0))

pub passing_yes : (test : ℕ → Bool) (places : List ℕ) (i : ℕ) (passing new : List ℕ) → i < length places → ArePassing test (take i places) passing
    → test (get_or places i 0) ≡ true → new ≡ passing ++ get_or places i 0 ∷ [] → ArePassing test (take (i + 1) places) new
passing_yes test places i passing new inside so_far passes pushed = rw (take_more places i 0 inside, pushed) both
  where
    both : ArePassing test (take i places ++ get_or places i 0 ∷ []) (passing ++ get_or places i 0 ∷ [])
    both place = (
      λ c. elim (Contains-push_cases passing (get_or places i 0) place c) [
        | inl old ↦ let d = (so_far place).0 old in (Contains-append_left (take i places) (get_or places i 0 ∷ []) place d.0, d.1)
        | inr is ↦ (
          subst (λ (p : ℕ). Contains (take i places ++ get_or places i 0 ∷ []) p) is (Contains-push (take i places) (get_or places i 0)),
          subst (λ (p : ℕ). test p ≡ true) is passes,
        )
      ],
      λ d. elim (Contains-push_cases (take i places) (get_or places i 0) place d.0) [
        | inl old ↦ Contains-append_left passing (get_or places i 0 ∷ []) place ((so_far place).1 (old, d.1))
        | inr is ↦ subst (λ (p : ℕ). Contains (passing ++ get_or places i 0 ∷ []) p) is (Contains-push passing (get_or places i 0))
      ],
    )

pub passing_no : (test : ℕ → Bool) (places : List ℕ) (i : ℕ) (passing : List ℕ) → i < length places → ArePassing test (take i places) passing
    → test (get_or places i 0) ≡ false → ArePassing test (take (i + 1) places) passing
passing_no test places i passing inside so_far fails = rw (take_more places i 0 inside) both
  where
    both : ArePassing test (take i places ++ get_or places i 0 ∷ []) passing
    both place = (
      λ c. let d = (so_far place).0 c in (Contains-append_left (take i places) (get_or places i 0 ∷ []) place d.0, d.1),
      λ d. elim (Contains-push_cases (take i places) (get_or places i 0) place d.0) [
        | inl old ↦ (so_far place).1 (old, d.1)
        | inr is ↦ absurd (false≢true (sym fails ∙ subst (λ (p : ℕ). test p ≡ true) (sym is) d.1))
      ],
    )

pub graph_first : {X : Type 0} (goes_on : X → X → Bool) (items : List X) → IsGraphOf goes_on items 0 []
graph_first goes_on items = record { states = refl; places = λ k d h. absurd (omega arith) }

pub graph_next : {X : Type 0} (goes_on : X → X → Bool) (items : List X) (n : ℕ) (graph new : List (List ℕ)) (row : List ℕ) (item : X) → IsGraphOf goes_on items n graph → n < length items → item ≡ get_or items n item → ArePlaces (goes_on item) items (length items) row → new ≡ graph ++ row ∷ [] → IsGraphOf goes_on items (n + 1) new
graph_next {X} goes_on items n graph new row item w h e a pushed = rw pushed (record {
  states = omega (arith, w.states, length_push graph row);
  places = places;
})
  where
    places : (k : ℕ) (d : X) → k < n + 1 → ArePlaces (goes_on (get_or items k d)) items (length items) (followers (graph ++ row ∷ []) k)
    places k d less =
        elim (cases_eq k n) [
          | inl same ↦ subst (λ (j : ℕ). ArePlaces (goes_on (get_or items j d)) items (length items) (followers (graph ++ row ∷ []) j)) (sym same)
              (rw (item_here items n item d h e, get_or_push graph row [] n w.states) a)
          | inr other ↦ rw (get_or_append_left graph (row ∷ []) [] k (omega (arith, w.states))) (w.places k d (omega arith))
        ]

pub marked_first : {X : Type 0} (items : List X) (marks : List Bool) → AreMarkedItems items marks 0 []
marked_first items marks item = (λ c. absurd (none_here item c), λ h. absurd (omega (arith, h.inside)))

wider : {X : Type 0} (items : List X) (marks : List Bool) (n : ℕ) (item : X) → HasMark items marks n item → HasMark items marks (n + 1) item
wider items marks n item h = record { place = h.place; inside = omega (arith, h.inside); here = h.here; marked = h.marked }

pub marked_next_yes : {X : Type 0} (items : List X) (marks : List Bool) (n : ℕ) (marked new : List X) (item : X) → AreMarkedItems items marks n marked → n < length items → item ≡ get_or items n item → IsMarked marks n → new ≡ marked ++ item ∷ [] → AreMarkedItems items marks (n + 1) new
marked_next_yes {X} items marks n marked new item w h e is pushed = rw pushed both
  where
    has : (other : X) → item ≡ other → HasMark items marks (n + 1) other
    has other same = subst (λ (s : X). HasMark items marks (n + 1) s) same (record { place = n; inside = omega arith; here = sym e; marked = is })

    both : AreMarkedItems items marks (n + 1) (marked ++ item ∷ [])
    both other = (
      λ c. elim (Contains-push_cases marked item other c) [ inl old ↦ wider items marks n other ((w other).0 old) | inr same ↦ has other same ],
      λ m.
          elim (cases_eq m.place n) [
            | inl same ↦ subst (λ (s : X). Contains (marked ++ item ∷ []) s) (sym (item_here items n item other h e) ∙ subst (λ (j : ℕ). get_or items j other ≡ other) same m.here) (Contains-push marked item)
            | inr less ↦ Contains-append_left marked (item ∷ []) other ((w other).1 (record { place = m.place; inside = omega (arith, m.inside, less); here = m.here; marked = m.marked }))
          ],
    )

pub marked_next_no : {X : Type 0} (items : List X) (marks : List Bool) (n : ℕ) (marked : List X) → AreMarkedItems items marks n marked → get_or marks n false ≡ false → AreMarkedItems items marks (n + 1) marked
marked_next_no items marks n marked w is other = (
  λ c. wider items marks n other ((w other).0 c),
  λ m.
      elim (cases_eq m.place n) [
        | inl same ↦ absurd (false≢true (sym is ∙ subst (λ (j : ℕ). IsMarked marks j) same m.marked))
        | inr less ↦ (w other).1 (record { place = m.place; inside = omega (arith, m.inside, less); here = m.here; marked = m.marked })
      ],
)

-- all items were looked at
pub places_done : {X : Type 0} (test : X → Bool) (items : List X) (n : ℕ) (places : List ℕ) → ArePlaces test items n places → n ≡ length items → ArePlaces test items (length items) places
places_done test items n places w e = subst (λ (m : ℕ). ArePlaces test items m places) e w

pub marked_done : {X : Type 0} (items : List X) (marks : List Bool) (n : ℕ) (marked : List X) → AreMarkedItems items marks n marked → n ≡ length items → AreMarkedItems items marks (length items) marked
marked_done items marks n marked w e = subst (λ (m : ℕ). AreMarkedItems items marks m marked) e w

-- likewise the list of the marked ones
pub exact_first : {X : Type 0} (marks : List Bool) → [] ≡ marked_of {X = X} [] marks
unfolding marked_of
exact_first marks = refl

taken_yes : {X : Type 0} (items : List X) (marks : List Bool) (n : ℕ) (item : X) → n < length items → item ≡ get_or items n item → IsMarked marks n → marked_of (take (suc n) items) marks ≡ marked_of (take n items) marks ++ item ∷ []
unfolding marked_of
taken_yes [] marks n item h e is = absurd (omega (arith, h))
taken_yes (x ∷ xs) [] n item h e is = absurd (false≢true (sym (get_or_past [] n false (omega arith)) ∙ is))
taken_yes (x ∷ xs) (true ∷ marks) zero item h e is = ap (λ y. y ∷ []) (sym e)
taken_yes (x ∷ xs) (false ∷ marks) zero item h e is = absurd (false≢true is)
taken_yes (x ∷ xs) (true ∷ marks) (suc n) item h e is = ap (λ ys. x ∷ ys) (taken_yes xs marks n item (omega (arith, h)) e is)
taken_yes (x ∷ xs) (false ∷ marks) (suc n) item h e is = taken_yes xs marks n item (omega (arith, h)) e is

taken_no : {X : Type 0} (items : List X) (marks : List Bool) (n : ℕ) → get_or marks n false ≡ false → marked_of (take (suc n) items) marks ≡ marked_of (take n items) marks
unfolding marked_of
taken_no [] marks zero is = refl
taken_no [] marks (suc n) is = refl
taken_no (x ∷ xs) [] zero is = refl
taken_no (x ∷ xs) [] (suc n) is = refl
taken_no (x ∷ xs) (true ∷ marks) zero is = absurd (false≢true (sym is))
taken_no (x ∷ xs) (false ∷ marks) zero is = refl
taken_no (x ∷ xs) (true ∷ marks) (suc n) is = ap (λ ys. x ∷ ys) (taken_no xs marks n is)
taken_no (x ∷ xs) (false ∷ marks) (suc n) is = taken_no xs marks n is

pub exact_next_yes : {X : Type 0} (items : List X) (marks : List Bool) (n : ℕ) (marked new : List X) (item : X) → marked ≡ marked_of (take n items) marks → n < length items → item ≡ get_or items n item → IsMarked marks n → new ≡ marked ++ item ∷ [] → new ≡ marked_of (take (n + 1) items) marks
exact_next_yes items marks n marked new item was h e is pushed =
    let next : suc n ≡ n + 1 = omega arith in
    pushed ∙ ap (λ ys. ys ++ item ∷ []) was ∙ sym (taken_yes items marks n item h e is) ∙ ap (λ m. marked_of (take m items) marks) next

pub exact_next_no : {X : Type 0} (items : List X) (marks : List Bool) (n : ℕ) (marked : List X) → marked ≡ marked_of (take n items) marks → get_or marks n false ≡ false → marked ≡ marked_of (take (n + 1) items) marks
exact_next_no items marks n marked was is =
    let next : suc n ≡ n + 1 = omega arith in
    was ∙ sym (taken_no items marks n is) ∙ ap (λ m. marked_of (take m items) marks) next
