-- Who has the most.
use Rattle.std.proofs.Common.{◌≡◌, ℕ, ◌+◌, ◌-◌, ◌<◌, ◌≤◌, ◌%◌, Bool, true, false, cond, ◌⊎◌, inl, inr, List, [], ◌∷◌, zero, suc, Option, None, Some, MatchOption, is_some, map, find, take, length, get_or, ltb, leb, sym, ◌∙◌, ap, refl, subst, arith}
use Rattle.std.proofs.Math.Nat.{add-mod_left, mod-eq_of_lt, mod-lt}
use Rattle.std.proofs.lemmas.Bool.{false≢true, and_parts, and_from, leb-true, le-leb, ltb-true, lt-ltb}
use Rattle.std.proofs.lemmas.Bool.Decides.{leb_tells}
use Rattle.std.specs.List.{list_all, range_with_len}
use Rattle.rr_books.specs.declared.parties.Seat.{Seat}
use Rattle.rr_shares.specs.Holdings.{Percents, has_most, heir, percent_in, seats_left_of, succeeds}
use Rattle.rr_shares.specs.Presidents.{HasTheMost}

-- what each of the first n is at most, by the test
at_most_by : (row : List ℕ) (n k m : ℕ) → list_all (λ x. leb x m) (take n row) ≡ true → k < n → k < length row → get_or row k 0 ≤ m
at_most_by [] n k m all at within = absurd (omega arith)
at_most_by (x ∷ xs) zero k m all at within = absurd (omega arith)
at_most_by (x ∷ xs) (suc n) zero m all at within = leb-true x m (and_parts (leb x m) (list_all (λ y. leb y m) (take n xs)) all).0
at_most_by (x ∷ xs) (suc n) (suc k) m all at within =
    at_most_by xs n k m (and_parts (leb x m) (list_all (λ y. leb y m) (take n xs)) all).1 (omega arith) (omega arith)

-- what is at most one number is at most a greater one
at_most_more : (ys : List ℕ) (m x : ℕ) → m ≤ x → list_all (λ y. leb y m) ys ≡ true → list_all (λ y. leb y x) ys ≡ true
at_most_more [] m x h all = refl
at_most_more (y ∷ ys) m x h all =
    let both = and_parts (leb y m) (list_all (λ z. leb z m) ys) all in
    let below : y ≤ m = leb-true y m both.0 in
    and_from (leb y x) (list_all (λ z. leb z x) ys) (le-leb y x (omega arith)) (at_most_more ys m x h both.1)

-- the place k has the greatest of the first n
abbrev IsGreatestAt : List ℕ → ℕ → ℕ → Type 0
IsGreatestAt row n k = (k < n) × (list_all (λ x. leb x (get_or row k 0)) (take n row) ≡ true)

greater_of : (x : ℕ) (xs : List ℕ) (n k : ℕ) → IsGreatestAt xs (suc n) k → ((leb x (get_or xs k 0) ≡ true) × (x ≤ get_or xs k 0)) ⊎ ((leb x (get_or xs k 0) ≡ false) × (get_or xs k 0 < x)) → (i : ℕ) × IsGreatestAt (x ∷ xs) (suc (suc n)) i
greater_of x xs n k h (inl le) =
    let at = h.0 in
    (suc k, (omega arith, and_from (leb x (get_or xs k 0)) (list_all (λ y. leb y (get_or xs k 0)) (take (suc n) xs)) le.0 h.1))
greater_of x xs n k h (inr lt) =
    let below = lt.1 in
    (0, (omega arith, and_from (leb x x) (list_all (λ y. leb y x) (take (suc n) xs)) (le-leb x x (omega arith)) (at_most_more (take (suc n) xs) (get_or xs k 0) x (omega arith) h.1)))

-- some of the first n + 1 is the greatest of them
greatest : (row : List ℕ) (n : ℕ) → suc n ≤ length row → (k : ℕ) × IsGreatestAt row (suc n) k
greatest [] n within = absurd (omega arith)
greatest (x ∷ xs) zero within = (0, (omega arith, and_from (leb x x) true (le-leb x x (omega arith)) refl))
greatest (x ∷ xs) (suc n) within =
    let rest = greatest xs n (omega arith) in
    greater_of x xs n rest.0 rest.1 (leb_tells x (get_or xs rest.0 0))

greatest_of_first : (row : List ℕ) (n : ℕ) → 0 < n → n ≤ length row → (k : ℕ) × IsGreatestAt row n k
greatest_of_first row n some within =
    let e : suc (n - 1) ≡ n = omega arith in
    let Some_is : ℕ → Type 0 = λ j. (k : ℕ) × IsGreatestAt row j k in
    subst Some_is e (greatest row (n - 1) (omega arith))

-- the first that passes does pass
passes_if : {X : Type 0} (test : X → Bool) (x : X) (rest : Option X) (b : Bool) → test x ≡ b → MatchOption rest (Unit {0}) (λ y. test y ≡ true) → MatchOption (cond b (Some x) rest) (Unit {0}) (λ y. test y ≡ true)
passes_if test x rest true e h = e
passes_if test x rest false e h = h

passes : {X : Type 0} (test : X → Bool) (xs : List X) → MatchOption (find test xs) (Unit {0}) (λ x. test x ≡ true)
passes test [] = tt
passes test (x ∷ xs) = passes_if test x (find test xs) (test x) refl (passes test xs)

-- the first of some seats to pass is at the table
at_table : (test : Seat → Bool) (n s : ℕ) → 0 < n → (steps : List ℕ) → MatchOption (find test (map (λ k. record { 0 = (s + k) % n }) steps)) (Unit {0}) (λ (seat : Seat). seat.0 < n)
at_table test n s some [] = tt
at_table test n s some (k ∷ ks) =
    elim (test (record { 0 = (s + k) % n })) as (λ b. MatchOption (cond b (Some (record { 0 = (s + k) % n })) (find test (map (λ x. record { 0 = (s + x) % n }) ks))) (Unit {0}) (λ (seat : Seat). seat.0 < n)) [
      | true ↦ mod-lt (s + k) some
      | false ↦ at_table test n s some ks
    ]

-- where the first that passes is none, none passes
fails_at : (test : Seat → Bool) (f : ℕ → Seat) (a k : ℕ) → test (f a) ≡ false → a ≤ k → (a + 1 ≤ k → test (f k) ≡ false) → ((leb (a + 1) k ≡ true) × (a + 1 ≤ k)) ⊎ ((leb (a + 1) k ≡ false) × (k < a + 1)) → test (f k) ≡ false
fails_at test f a k first low later (inl above) = later above.1
fails_at test f a k first low later (inr below) =
    let under = below.1 in
    let same : a ≡ k = omega arith in
    subst (λ (j : ℕ). test (f j) ≡ false) same first

fails_if : (test : Seat → Bool) (f : ℕ → Seat) (a k : ℕ) (rest : Option Seat) (b : Bool) → test (f a) ≡ b → cond b (Some (f a)) rest ≡ None → a ≤ k → (rest ≡ None → a + 1 ≤ k → test (f k) ≡ false) → test (f k) ≡ false
fails_if test f a k rest true e none low later = absurd (false≢true (sym (ap (λ (o : Option Seat). is_some o) none)))
fails_if test f a k rest false e none low later = fails_at test f a k e low (later none) (leb_tells (a + 1) k)

fails : (test : Seat → Bool) (f : ℕ → Seat) (a m k : ℕ) → find test (map f (range_with_len a m)) ≡ None → a ≤ k → k < a + m → test (f k) ≡ false
fails test f a zero k none low high = absurd (omega arith)
fails test f a (suc m) k none low high =
    fails_if test f a k (find test (map f (range_with_len (a + 1) m))) (test (f a)) refl none low
    (λ none_later above. fails test f (a + 1) m k none_later above (omega arith))

-- each other seat is so many places to the left
left_by : (n p i : ℕ) → p < n → i < n → (p ≡ i → ⊥) → (k : ℕ) × (1 ≤ k) × (k < n) × ((p + k) % n ≡ i)
left_by n p i p_in i_in apart = by_order (leb_tells p i)
  where
    by_order : ((leb p i ≡ true) × (p ≤ i)) ⊎ ((leb p i ≡ false) × (i < p)) → (k : ℕ) × (1 ≤ k) × (k < n) × ((p + k) % n ≡ i)
    by_order (inl h) =
        let le = h.1 in
        let e : p + (i - p) ≡ i = omega arith in
        (i - p, omega (arith, apart), omega arith, ap (λ j. j % n) e ∙ mod-eq_of_lt i_in)
    by_order (inr h) =
        let lt = h.1 in
        let e : p + (n + i - p) ≡ n + i = omega arith in
        (n + i - p, omega arith, omega arith, ap (λ j. j % n) e ∙ add-mod_left n i ∙ mod-eq_of_lt i_in)

-- a seat other than the president that succeeds is found
found : (row : Percents) (n i : ℕ) (president : Seat) → president.0 < n → i < n → (president.0 ≡ i → ⊥) → find (succeeds row n president) (seats_left_of n president) ≡ None → succeeds row n president (record { 0 = i }) ≡ false
found row n i president seated within apart none =
    let left = left_by n president.0 i seated within apart in
    let low = left.1 in
    let high = left.2 in
    subst (λ (j : ℕ). succeeds row n president (record { 0 = j }) ≡ false) left.3
    (fails (succeeds row n president) (λ steps. record { 0 = (president.0 + steps) % n }) 1 (n - 1) left.0 none low (omega arith))

none_above : (row : Percents) (n : ℕ) (president : Seat) → president.0 < n → n ≤ length row → find (succeeds row n president) (seats_left_of n president) ≡ None → (k : ℕ) → k < n → percent_in row president < get_or row k 0 → ⊥
none_above row n president seated long none k within more =
    let top = greatest_of_first row n (omega arith) long in
    let at : top.0 < n = top.1.0 in
    let most : get_or row k 0 ≤ get_or row top.0 0 = at_most_by row n k (get_or row top.0 0) top.1.1 within (omega arith) in
    let apart : president.0 ≡ top.0 → ⊥ = λ e. let same : get_or row president.0 0 ≡ get_or row top.0 0 = ap (λ j. get_or row j 0) e in omega arith in
    false≢true (sym (found row n top.0 president seated at apart none)
    ∙ and_from (ltb (percent_in row president) (get_or row top.0 0)) (has_most row n (record { 0 = top.0 })) (lt-ltb (percent_in row president) (get_or row top.0 0) (omega arith)) top.1.1)

heir_by : (row : Percents) (n : ℕ) (president : Seat) → president.0 < n → n ≤ length row → (o : Option Seat) → find (succeeds row n president) (seats_left_of n president) ≡ o → MatchOption o (Unit {0}) (λ s. succeeds row n president s ≡ true) → MatchOption o (Unit {0}) (λ s. s.0 < n)
    → MatchOption o (HasTheMost row n president) (λ s. (s.0 < n) × (percent_in row president < percent_in row s) × HasTheMost row n s)
heir_by row n president seated long None e passed within =
    λ (k : ℕ) (at : k < n).
    elim (leb_tells (get_or row k 0) (percent_in row president)) [
      | inl h ↦ h.1
      | inr h ↦ absurd (none_above row n president seated long e k at h.1)
    ]
heir_by row n president seated long (Some s) e passed within =
    let both = and_parts (ltb (percent_in row president) (percent_in row s)) (has_most row n s) passed in
    (within, ltb-true (percent_in row president) (percent_in row s) both.0, λ k at. at_most_by row n k (percent_in row s) both.1 at (omega arith))

pub heir_has_most : (row : Percents) (n : ℕ) (president : Seat) → president.0 < n → n ≤ length row
    → MatchOption (heir row n president) (HasTheMost row n president) (λ s. (s.0 < n) × (percent_in row president < percent_in row s) × HasTheMost row n s)
unfolding heir
heir_has_most row n president seated long =
    heir_by row n president seated long (find (succeeds row n president) (seats_left_of n president)) refl
    (passes (succeeds row n president) (seats_left_of n president))
    (at_table (succeeds row n president) n president.0 (omega arith) (range_with_len 1 (n - 1)))
