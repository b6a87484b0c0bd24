-- Somebody is to raise exactly where two seats or more bid on what is for sale.
use Rattle.std.specs.Prelude.{◌≡◌, ℕ, ◌+◌, ◌<◌, ◌≤◌, ◌==◌, max, Bool, true, false, cond, nat_lt, ◌&&◌, ◌||◌, List, [], ◌∷◌, Option, None, Some, ◌⊎◌, find, fold, length, is_some, option_and_then, count_by, refl}
use Rattle.std.specs.Option.{option_or}
use Rattle.std.specs.List.{list_all, list_any}
use Rattle.std.proofs.Common.{sym, ◌∙◌, ap, arith, get_or, inl, inr, zero, suc}
use Rattle.std.proofs.lemmas.Bool.{and_parts, and_from, cases_lt, eq-eqb, false≢true, lt-ltb, ltb-true}
use Rattle.std.proofs.lemmas.Bool.Decides.{nat_tests}
use Rattle.std.proofs.lemmas.List.Folds.{list_any_at}
use Rattle.std.proofs.lemmas.List.Sums.{sum_by-cons}
use Rattle.rr_books.specs.declared.parties.Seat.{Seat}
use Rattle.rr_rounds.specs.Bids.Bids.{Row, all_seats, bid_in, first_before, first_behind, has_bid, highest, leader, next_bidder, raiser}

either_finds : {X : Type 0} (o p : Option X) → is_some (option_or o p) ≡ (is_some o || is_some p)
either_finds None p = refl
either_finds (Some x) p = refl

-- something is found exactly where the test passes more than nothing
finds_counted : {X : Type 0} (p : X → Bool) (xs : List X) → is_some (find p xs) ≡ nat_lt 0 (count_by p xs)
finds_counted p [] = refl
finds_counted p (x ∷ xs) =
    by_test (p x) (find p xs) (count_by p xs) (finds_counted p xs)
    ∙ ap (λ (n : ℕ). nat_lt 0 n) (sym (sum_by-cons (λ y. cond {A = ℕ} (p y) 1 0) x xs))
  where
    by_test : (b : Bool) (o : Option _) (n : ℕ) → is_some o ≡ nat_lt 0 n → is_some (cond b (Some x) o) ≡ nat_lt 0 (cond b 1 0 + n)
    by_test true o n h = grind (arith, nat_tests)
    by_test false o n h = h ∙ ap (λ (m : ℕ). nat_lt 0 m) (omega arith)

-- one of three orders
one_way : (b : Bool) (k m : ℕ) → cond b 1 0 ≡ (cond (nat_lt k m && b) 1 0 + cond (nat_lt m k && b) 1 0) + cond ((m == k) && b) 1 0
one_way true k m = grind (arith, nat_tests)
one_way false k m = grind (arith, nat_tests)

-- those that pass are those behind a place, those before it, and those at it
three_parts : (b : Seat → Bool) (k : ℕ) (xs : List Seat) → count_by b xs ≡ (count_by (λ t. nat_lt k t.0 && b t) xs + count_by (λ t. nat_lt t.0 k && b t) xs) + count_by (λ t. (t.0 == k) && b t) xs
three_parts b k [] = refl
three_parts b k (x ∷ xs) =
    let all = sum_by-cons (λ t. cond {A = ℕ} (b t) 1 0) x xs in
    let behind = sum_by-cons (λ (t : Seat). cond {A = ℕ} (nat_lt k t.0 && b t) 1 0) x xs in
    let before = sum_by-cons (λ (t : Seat). cond {A = ℕ} (nat_lt t.0 k && b t) 1 0) x xs in
    let there = sum_by-cons (λ (t : Seat). cond {A = ℕ} ((t.0 == k) && b t) 1 0) x xs in
    let rest = three_parts b k xs in
    let first = one_way (b x) k x.0 in
    omega arith

at_once : (b : Bool) → b ≡ true → cond {A = ℕ} b 1 0 ≡ 1
at_once b h = ap (λ (v : Bool). cond {A = ℕ} v 1 0) h

-- a seat of the six that passes is found once
found_once : (b : Seat → Bool) (k : ℕ) → k < 6 → b (record { 0 = k }) ≡ true → count_by (λ t. (t.0 == k) && b t) all_seats ≡ 1
found_once b zero low h = let one = at_once (b (record { 0 = 0 })) h in omega arith
found_once b (suc zero) low h = let one = at_once (b (record { 0 = 1 })) h in omega arith
found_once b (suc (suc zero)) low h = let one = at_once (b (record { 0 = 2 })) h in omega arith
found_once b (suc (suc (suc zero))) low h = let one = at_once (b (record { 0 = 3 })) h in omega arith
found_once b (suc (suc (suc (suc zero)))) low h = let one = at_once (b (record { 0 = 4 })) h in omega arith
found_once b (suc (suc (suc (suc (suc zero))))) low h = let one = at_once (b (record { 0 = 5 })) h in omega arith
found_once b (suc (suc (suc (suc (suc (suc k)))))) low h = absurd (omega arith)

or_counted : (m n : ℕ) → (nat_lt 0 m || nat_lt 0 n) ≡ nat_lt 1 ((m + n) + 1)
or_counted m n = grind (arith, nat_tests)

-- beside a bidder there is another exactly where there are two or more
another_bids : (row : Row) (l : Seat) → l.0 < 6 → has_bid row l ≡ true → is_some (next_bidder row l) ≡ nat_lt 1 (count_by (has_bid row) all_seats)
unfolding first_behind first_before
another_bids row l low bids =
    let b = λ (t : Seat). has_bid row t in
    let behind = λ (t : Seat). nat_lt l.0 t.0 && has_bid row t in
    let before = λ (t : Seat). nat_lt t.0 l.0 && has_bid row t in
    let parts = three_parts b l.0 all_seats in
    let one = found_once b l.0 low bids in
    either_finds (find behind all_seats) (find before all_seats)
    ∙ ap (λ (v : Bool). v || is_some (find before all_seats)) (finds_counted behind all_seats)
    ∙ ap (λ (v : Bool). nat_lt 0 (count_by behind all_seats) || v) (finds_counted before all_seats)
    ∙ or_counted (count_by behind all_seats) (count_by before all_seats)
    ∙ ap (λ (n : ℕ). nat_lt 1 n) (omega arith)

-- what is found passes the test, and each test that all pass
found_among : {X : Type 0} (p q : X → Bool) (xs : List X) (x : X) → list_all q xs ≡ true → find p xs ≡ Some x → (p x ≡ true) × (q x ≡ true)
found_among p q [] x all h = absurd (cc)
found_among p q (y ∷ ys) x all h = let parts = and_parts (q y) (list_all q ys) all in by_test (p y) refl (found_among p q ys x parts.1) h parts.0
  where
    by_test : (b : Bool) → p y ≡ b → (find p ys ≡ Some x → (p x ≡ true) × (q x ≡ true)) → cond b (Some y) (find p ys) ≡ Some x → q y ≡ true → (p x ≡ true) × (q x ≡ true)
    by_test true e later k passes = let same : y ≡ x = cc in (ap p (sym same) ∙ e, ap q (sym same) ∙ passes)
    by_test false e later k passes = later k

-- no bid is higher than the highest
pub below_highest : (row : List ℕ) (m k : ℕ) → (m ≤ fold max m row) × (get_or row k 0 ≤ fold max m row)
below_highest [] m k = (omega arith, omega arith)
below_highest (x ∷ xs) m zero = let h = below_highest xs (max m x) 0 in (omega (arith, h.0), omega (arith, h.0))
below_highest (x ∷ xs) m (suc k) = let h = below_highest xs (max m x) k in (omega (arith, h.0), h.1)

-- some bid is the highest
pub highest_there : (row : List ℕ) (m : ℕ) → (fold max m row ≡ m) ⊎ ((k : ℕ) × (k < length row) × (get_or row k 0 ≡ fold max m row))
highest_there [] m = inl refl
highest_there (x ∷ xs) m = elim (highest_there xs (max m x)) [
  | inr later ↦ inr (suc later.0, omega (arith, later.1), later.2)
  | inl e ↦ elim (cases_lt m x) [
    | inl more ↦ inr (0, omega arith, omega arith)
    | inr less ↦ inl (omega arith)
  ]
]

seat_there : (k : ℕ) → k < 6 → get_or all_seats k (record { 0 = 0 }) ≡ record { 0 = k }
seat_there zero low = refl
seat_there (suc zero) low = refl
seat_there (suc (suc zero)) low = refl
seat_there (suc (suc (suc zero))) low = refl
seat_there (suc (suc (suc (suc zero)))) low = refl
seat_there (suc (suc (suc (suc (suc zero))))) low = refl
seat_there (suc (suc (suc (suc (suc (suc k)))))) low = absurd (omega arith)

-- where no bid is the highest, there is none
no_leader : (row : Row) → length row ≡ 6 → leader row ≡ None → count_by (has_bid row) all_seats ≡ 0
unfolding leader highest
no_leader row six none =
    elim (cases_lt 0 (count_by (has_bid row) all_seats)) [
      | inr low ↦ omega arith
      | inl some ↦ elim (highest_there row 0) [
        | inl lowest ↦
            let found : is_some (find (has_bid row) all_seats) ≡ true = finds_counted (has_bid row) all_seats ∙ lt-ltb 0 (count_by (has_bid row) all_seats) some in
            absurd (by_first (find (has_bid row) all_seats) refl found (λ s. let low = below_highest row 0 s.0 in omega (arith, low.1, lowest)))
        | inr top ↦
            elim (cases_lt 0 (fold max 0 row)) [
              | inl above ↦
                  let low : top.0 < 6 = omega (arith, top.1, six) in
                  let s : Seat = record { 0 = top.0 } in
                  let at = seat_there top.0 low in
                  let has : has_bid row s ≡ true = lt-ltb 0 (bid_in row s) (omega (arith, top.2)) in
                  let is : (bid_in row s == fold max 0 row) ≡ true = eq-eqb (bid_in row s) (fold max 0 row) top.2 in
                  let test = λ (t : Seat). has_bid row t && (bid_in row t == fold max 0 row) in
                  let passes : test s ≡ true = and_from (has_bid row s) (bid_in row s == fold max 0 row) has is in
                  let there : list_any test all_seats ≡ true = list_any_at test all_seats top.0 (record { 0 = 0 }) low (ap test at ∙ passes) in
                  absurd (false≢true (ap (λ (o : Option Seat). is_some o) (sym none) ∙ finds test all_seats ∙ there))
              | inr lowest ↦
                  let found : is_some (find (has_bid row) all_seats) ≡ true = finds_counted (has_bid row) all_seats ∙ lt-ltb 0 (count_by (has_bid row) all_seats) some in
                  absurd (by_first (find (has_bid row) all_seats) refl found (λ s. let low = below_highest row 0 s.0 in omega (arith, low.1, lowest)))
            ]
      ]
    ]
  where
    finds : {X : Type 0} (p : X → Bool) (xs : List X) → is_some (find p xs) ≡ list_any p xs
    finds p [] = refl
    finds p (x ∷ xs) = by_test (p x) (finds p xs)
      where
        by_test : (b : Bool) → is_some (find p xs) ≡ list_any p xs → is_some (cond b (Some x) (find p xs)) ≡ (b || list_any p xs)
        by_test true h = refl
        by_test false h = h

    six_seats : list_all (λ (t : Seat). nat_lt t.0 6) all_seats ≡ true
    six_seats = refl

    by_first : (o : Option Seat) → find (has_bid row) all_seats ≡ o → is_some o ≡ true → ((s : Seat) → bid_in row s ≤ 0) → ⊥
    by_first None e some low = false≢true some
    by_first (Some s) e some low =
        let bids = found_among (has_bid row) (λ t. nat_lt t.0 6) all_seats s six_seats e in
        let above = ltb-true 0 (bid_in row s) bids.0 in
        omega (arith, low s)

-- somebody is to raise exactly where two seats or more have a bid
pub raiser_several : (row : Row) → length row ≡ 6 → is_some (raiser row) ≡ nat_lt 1 (count_by (has_bid row) all_seats)
unfolding leader
raiser_several row six = by_leader (leader row) refl
  where
    six_seats : list_all (λ (t : Seat). nat_lt t.0 6) all_seats ≡ true
    six_seats = refl

    by_leader : (o : Option Seat) → leader row ≡ o → is_some (option_and_then (next_bidder row) o) ≡ nat_lt 1 (count_by (has_bid row) all_seats)
    by_leader None e = ap (λ (n : ℕ). nat_lt 1 n) (sym (no_leader row six e))
    by_leader (Some l) e =
        let found = found_among (λ s. has_bid row s && (bid_in row s == highest row)) (λ t. nat_lt t.0 6) all_seats l six_seats e in
        another_bids row l (ltb-true l.0 6 found.1) (and_parts (has_bid row l) (bid_in row l == highest row) found.0).0
