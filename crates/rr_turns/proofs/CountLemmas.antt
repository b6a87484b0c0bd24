-- Numbers of a range that pass a test, one range behind the other.
use Rattle.std.proofs.Common.{◌≡◌, ℕ, zero, suc, ◌+◌, ◌-◌, ◌<◌, ◌≤◌, Bool, true, false, List, [], ◌∷◌, ◌++◌, length, cond, refl, ap, ◌∙◌, inl, inr, subst, append-nil, length-append, arith}
use Rattle.std.specs.List.{filter, range_with_len}
use Rattle.std.proofs.lemmas.List.Elements.{filter-append}
use Rattle.std.proofs.lemmas.Bool.{cases_Bool}
use Rattle.rr_turns.specs.Counts.{numbers_with}

pub range-append : (a m n : ℕ) → range_with_len a (m + n) ≡ range_with_len a m ++ range_with_len (a + m) n
range-append a zero n =
    ap (λ (k : ℕ). range_with_len a k) (let e : 0 + n ≡ n = omega arith in e)
    ∙ ap (λ (k : ℕ). range_with_len k n) (let e : a ≡ a + 0 = omega arith in e)
range-append a (suc m) n =
    ap (λ (k : ℕ). range_with_len a k) (let e : suc m + n ≡ suc (m + n) = omega arith in e)
    ∙ ap (λ (xs : List ℕ). a ∷ xs) (range-append (a + 1) m n)
    ∙ ap (λ (k : ℕ). a ∷ range_with_len (a + 1) m ++ range_with_len k n) (let e : a + 1 + m ≡ a + suc m = omega arith in e)

-- the numbers up to a first bound, and those above it
pub numbers_with-split : (test : ℕ → Bool) (m n : ℕ) → numbers_with test (m + n) ≡ numbers_with test m ++ filter test (range_with_len (m + 1) n)
unfolding numbers_with
numbers_with-split test m n =
    ap (filter test) (range-append 1 m n)
    ∙ filter-append test (range_with_len 1 m) (range_with_len (1 + m) n)
    ∙ ap (λ (k : ℕ). filter test (range_with_len 1 m) ++ filter test (range_with_len k n)) (let e : 1 + m ≡ m + 1 = omega arith in e)

-- where none above a bound passes
pub filter-none : (test : ℕ → Bool) (a n : ℕ) → ((place : ℕ) → a ≤ place → place < a + n → test (place + 1) ≡ false) → filter test (range_with_len (a + 1) n) ≡ []
filter-none test a zero h = refl
filter-none test a (suc n) h =
    rw (h a (omega arith) (omega arith)) (filter-none test (a + 1) n (λ place low high. h place (omega (arith, low)) (omega (arith, high))))

pub none-above : (test : ℕ → Bool) (m n : ℕ) → m ≤ n → ((place : ℕ) → m ≤ place → place < n → test (place + 1) ≡ false) → numbers_with test n ≡ numbers_with test m
none-above test m n le h =
    let whole : n ≡ m + (n - m) = omega (arith, le) in
    ap (numbers_with test) whole
    ∙ numbers_with-split test m (n - m)
    ∙ ap (λ (xs : List ℕ). numbers_with test m ++ xs) (filter-none test m (n - m) (λ place low high. h place low (omega (arith, high, le))))
    ∙ append-nil (numbers_with test m)

-- one that passes
pub passes-at : (test : ℕ → Bool) (m n : ℕ) → m < n → test (m + 1) ≡ true
    → numbers_with test n ≡ numbers_with test m ++ (m + 1) ∷ filter test (range_with_len (m + 1 + 1) (n - (m + 1)))
passes-at test m n lt h =
    let whole : n ≡ m + suc (n - (m + 1)) = omega (arith, lt) in
    ap (numbers_with test) whole
    ∙ numbers_with-split test m (suc (n - (m + 1)))
    ∙ ap (λ (b : Bool). numbers_with test m ++ cond b ((m + 1) ∷ filter test (range_with_len (m + 1 + 1) (n - (m + 1)))) (filter test (range_with_len (m + 1 + 1) (n - (m + 1))))) h

pub passes-last : (test : ℕ → Bool) (m : ℕ) → test (m + 1) ≡ true → numbers_with test (m + 1) ≡ numbers_with test m ++ (m + 1) ∷ []
passes-last test m h = numbers_with-split test m 1 ∙ ap (λ (b : Bool). numbers_with test m ++ cond b ((m + 1) ∷ []) []) h

pub fails-last : (test : ℕ → Bool) (m : ℕ) → test (m + 1) ≡ false → numbers_with test (m + 1) ≡ numbers_with test m
fails-last test m h = none-above test m (m + 1) (omega arith) (λ place low high. subst (λ (k : ℕ). test (k + 1) ≡ false) (let e : m ≡ place = omega (arith, low, high) in e) h)

pub length-none : (test : ℕ → Bool) → length (numbers_with test 0) ≡ 0
unfolding numbers_with
length-none test = refl

pub length-passes : (test : ℕ → Bool) (m : ℕ) → test (m + 1) ≡ true → length (numbers_with test (m + 1)) ≡ length (numbers_with test m) + 1
length-passes test m h = ap length (passes-last test m h) ∙ length-append (numbers_with test m) ((m + 1) ∷ [])

pub length-fails : (test : ℕ → Bool) (m : ℕ) → test (m + 1) ≡ false → length (numbers_with test (m + 1)) ≡ length (numbers_with test m)
length-fails test m h = ap length (fails-last test m h)

pub length-at_most : (test : ℕ → Bool) (n : ℕ) → length (numbers_with test n) ≤ n
length-at_most test zero = omega (arith, length-none test)
length-at_most test (suc n) =
    let next : length (numbers_with test (suc n)) ≡ length (numbers_with test (n + 1)) = ap (λ (k : ℕ). length (numbers_with test k)) (let e : suc n ≡ n + 1 = omega arith in e) in
    elim (cases_Bool (test (n + 1))) [
      | inl passes ↦ omega (arith, next, length-passes test n passes, length-at_most test n)
      | inr fails ↦ omega (arith, next, length-fails test n fails, length-at_most test n)
    ]
