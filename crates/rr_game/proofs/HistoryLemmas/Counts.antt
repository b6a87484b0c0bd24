-- The counts of which a table has snapshots, from one request to the next.
use Rattle.std.proofs.Common.{◌≡◌, ℕ, ◌+◌, ◌-◌, ◌%◌, ◌<◌, ◌≤◌, ◌==◌, Bool, true, false, ◌&&◌, nat_le, List, [], ◌∷◌, ◌++◌, cond, map, refl, sym, ap, subst, ◌∙◌, arith, append-nil, if◌then◌else◌}
use Rattle.std.specs.List.{filter, range_with_len}
use Rattle.std.proofs.lemmas.Bool.Decides.{nat_tests}
use Rattle.rr_turns.specs.Counts.{numbers_with}
use Rattle.rr_turns.specs.Sets.{numbers_with-same}
use Rattle.rr_turns.proofs.CountLemmas.{fails-last, none-above, passes-at, passes-last}
use Rattle.rr_game.specs.declared.history.snapshots.TheConstants.{SNAPSHOT_SPACING}
use Rattle.rr_game.specs.History.Snapshots.{is_between, is_named, is_spaced, least_named, named_counts}

-- one filter behind another

filter_filter : {X : Type 0} (p q : X → Bool) (xs : List X) → filter p (filter q xs) ≡ filter (λ x. q x && p x) xs
filter_filter p q [] = refl
filter_filter {X} p q (x ∷ xs) = step (q x) (filter_filter p q xs)
  where
    step : (b : Bool) → filter p (filter q xs) ≡ filter (λ y. q y && p y) xs
        → filter p (cond b (x ∷ filter q xs) (filter q xs)) ≡ cond (b && p x) (x ∷ filter (λ y. q y && p y) xs) (filter (λ y. q y && p y) xs)
    step true rest = ap (λ (ys : List X). cond (p x) (x ∷ ys) ys) rest
    step false rest = rest

pub map-filter : {X Y : Type 0} (f : X → Y) (p : Y → Bool) (xs : List X) → map f (filter (λ x. p (f x)) xs) ≡ filter p (map f xs)
map-filter f p [] = refl
map-filter {X} {Y} f p (x ∷ xs) = step (p (f x)) (map-filter f p xs)
  where
    step : (b : Bool) → map f (filter (λ y. p (f y)) xs) ≡ filter p (map f xs)
        → map f (cond b (x ∷ filter (λ y. p (f y)) xs) (filter (λ y. p (f y)) xs)) ≡ cond b (f x ∷ filter p (map f xs)) (filter p (map f xs))
    step true rest = ap (λ (ys : List Y). f x ∷ ys) rest
    step false rest = rest

filter-numbers_with : (p q : ℕ → Bool) (n : ℕ) → filter p (numbers_with q n) ≡ numbers_with (λ k. q k && p k) n
unfolding numbers_with
filter-numbers_with p q n = filter_filter p q _

-- tests

le-true : (k n : ℕ) → k ≤ n → nat_le k n ≡ true
le-true k n h = grind (arith, nat_tests)

le-false : (k n : ℕ) → n < k → nat_le k n ≡ false
le-false k n h = grind (arith, nat_tests)

pub true-le : (k n : ℕ) → nat_le k n ≡ true → k ≤ n
true-le k n h = grind (arith, nat_tests)

last_false : (a b c : Bool) → c ≡ false → (a && (b && c)) ≡ false
last_false false b c h = refl
last_false true false c h = refl
last_false true true c h = h

all_true : (a b c : Bool) → b ≡ true → c ≡ true → (a && (b && c)) ≡ a
all_true false b c is there = refl
all_true true b c is there = ap (λ (x : Bool). x && c) is ∙ there

narrower : (a b c d : Bool) → (c ≡ true → b ≡ true) → d ≡ true → ((a && b) && (c && d)) ≡ (a && c)
narrower false b c d h is = refl
narrower true true true d h is = is
narrower true true false d h is = refl
narrower true false false d h is = refl
narrower true false true d h is = absurd (let e : false ≡ true = h refl in cc)

-- the counts that stay between two bounds are those named with others

kept_between : (lo least new most n : ℕ) → most ≤ n → ((k : ℕ) → k ≤ most → (is_named lo k && is_between least most k) ≡ is_named new k)
    → filter (is_between least most) (named_counts lo n) ≡ named_counts new most
kept_between lo least new most n le same =
    let both : ℕ → Bool = λ k. is_named lo k && is_between least most k in
    filter-numbers_with (is_between least most) (is_named lo) n
    ∙ none-above both most n le
    (λ place low high. last_false (is_named lo (place + 1)) (nat_le least (place + 1)) (nat_le (place + 1) most) (le-false (place + 1) most (omega (arith, low))))
    ∙ numbers_with-same both (is_named new) most (λ k some few. same k few)

-- those up to a lower count
pub kept_below : (lo most n : ℕ) → most ≤ n → filter (is_between 0 most) (named_counts lo n) ≡ named_counts lo most
kept_below lo most n le =
    kept_between lo 0 lo most n le
    (λ k few. all_true (is_named lo k) (nat_le 0 k) (nat_le k most) (le-true 0 k (omega arith)) (le-true k most few))

-- those from a higher one on
pub kept_above : (lo least n : ℕ) → lo ≤ least → filter (is_between least n) (named_counts lo n) ≡ named_counts least n
kept_above lo least n le =
    kept_between lo least least n n (omega arith)
    (λ k few.
    narrower (is_spaced k) (nat_le lo k) (nat_le least k) (nat_le k n)
    (λ h. let above : least ≤ k = true-le least k h in le-true lo k (omega (arith, le, above))) (le-true k n few))

-- with one command more
by_spacing : (least n : ℕ) → least ≤ n + 1 → (b : Bool) → is_spaced (n + 1) ≡ b → named_counts least (n + 1) ≡ named_counts least n ++ (if b then (n + 1) ∷ [] else [])
by_spacing least n low true is =
    passes-last (is_named least) n (ap (λ (x : Bool). x && nat_le least (n + 1)) is ∙ le-true least (n + 1) low)
by_spacing least n low false is =
    fails-last (is_named least) n (ap (λ (x : Bool). x && nat_le least (n + 1)) is) ∙ sym (append-nil (named_counts least n))

pub named_more : (least n : ℕ) → least ≤ n + 1 → named_counts least (n + 1) ≡ named_counts least n ++ (if is_spaced (n + 1) then (n + 1) ∷ [] else [])
named_more least n low = by_spacing least n low (is_spaced (n + 1)) refl

-- of the opening alone there is none
none_named : (least : ℕ) → named_counts least 0 ≡ []
unfolding numbers_with
none_named least = refl

pub opening_named : (least : ℕ) → named_counts least 1 ≡ []
opening_named least = fails-last (is_named least) 0 refl ∙ none_named least

-- the least that is named

pub least-below : (count : ℕ) → least_named count ≤ count
least-below count = omega arith

pub least-near : (count : ℕ) → count < least_named count + SNAPSHOT_SPACING
least-near count = omega arith

pub least-rises : (count other : ℕ) → count ≤ other → least_named count ≤ least_named other
least-rises count other le = omega arith

least-spaced : (count : ℕ) → is_spaced (least_named count) ≡ true
least-spaced count =
    let e : least_named count % SNAPSHOT_SPACING ≡ 0 = omega arith in ap (λ (x : ℕ). x == 0) e

-- the count of the nearest is among those that are named
pub nearest_named : (lo count n : ℕ) → lo ≤ least_named count → 1 ≤ least_named count → count ≤ n
    → (front : List ℕ) × (rest : List ℕ) × (named_counts lo n ≡ front ++ least_named count ∷ rest)
nearest_named lo count n low some few =
    let m = least_named count in
    let one : m - 1 + 1 ≡ m = omega (arith, some) in
    let within : m - 1 < n = omega (arith, some, few, least-below count) in
    let passes : is_named lo m ≡ true = ap (λ (x : Bool). x && nat_le lo m) (least-spaced count) ∙ le-true lo m low in
    let named = passes-at (is_named lo) (m - 1) n within (subst (λ (k : ℕ). is_named lo k ≡ true) (sym one) passes) in
    let front = numbers_with (is_named lo) (m - 1) in
    let rest = filter (is_named lo) (range_with_len (m - 1 + 1 + 1) (n - (m - 1 + 1))) in
    (front, rest, named ∙ ap (λ (k : ℕ). front ++ k ∷ rest) one)
