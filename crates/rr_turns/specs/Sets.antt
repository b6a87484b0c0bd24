-- A set of counts is the words that hold it: from words to counts and back, and from counts to words and back.
use Rattle.std.specs.Prelude.{◌≡◌, ℕ, zero, suc, ◌+◌, ◌-◌, ◌*◌, ◌/◌, ◌%◌, ◌^◌, ◌<◌, ◌≤◌, Bool, true, false, List, [], ◌∷◌, ◌==◌, ◌||◌, cond, length, get_or, slice_index, refl, if◌then◌else◌}
use Rattle.std.specs.List.{filter, range_with_len}
use Rattle.std.specs.Int.{bit_at}
use Rattle.std.proofs.Common.{sym, ◌∙◌, ap, subst, inl, inr, arith, eq-eqb, ne_eqb}
use Rattle.std.proofs.Math.Nat.{pow-suc}
use Rattle.std.proofs.lemmas.Nat.Bits.{bit_at-lt, bit_at_cat_low, bit_at_cat_high, same_from_bits_below}
use Rattle.std.proofs.lemmas.List.FromFn.{fill_by_all, get_or-map-range_with_len, length-map-range_with_len}
use Rattle.std.proofs.lemmas.Bool.{both_ways, cases_eq, cases_lt}
use Rattle.std.proofs.lemmas.List.{get_or_past}
use Rattle.rr_turns.specs.declared.limits.TheConstants.{MOST_COMMANDS}
use Rattle.rr_turns.specs.Counts.{AreEnds, IsSet, RiseWithin, counts_of, is_among, is_held, number_of_bits, numbers_with, words_of}

-- the bits of a number
bit_of : (b : Bool) → bit_at (if b then 1 else 0) 0 ≡ (if b then 1 else 0)
bit_of true = refl
bit_of false = refl

top-lt : (b : Bool) (n low : ℕ) → low < 2 ^ n → (if b then 1 else 0) * 2 ^ n + low < 2 ^ suc n
top-lt true n low h = omega (arith, pow-suc 2 n)
top-lt false n low h = omega (arith, pow-suc 2 n)

pub number_of_bits-lt : (f : ℕ → Bool) (n : ℕ) → number_of_bits f n < 2 ^ n
unfolding number_of_bits
number_of_bits-lt f zero = omega arith
number_of_bits-lt f (suc n) = top-lt (f n) n (number_of_bits f n) (number_of_bits-lt f n)

bit_at-top : (b : Bool) (n low : ℕ) → low < 2 ^ n → bit_at ((if b then 1 else 0) * 2 ^ n + low) n ≡ (if b then 1 else 0)
bit_at-top b n low h =
    bit_at_cat_high (if b then 1 else 0) n low n h (omega arith)
    ∙ ap (λ (k : ℕ). bit_at (if b then 1 else 0) k) (let e : n - n ≡ 0 = omega arith in e) ∙ bit_of b

pub bit_at-number_of_bits : (f : ℕ → Bool) (n j : ℕ) → j < n → bit_at (number_of_bits f n) j ≡ (if f j then 1 else 0)
unfolding number_of_bits
bit_at-number_of_bits f zero j h = absurd (omega (arith, h))
bit_at-number_of_bits f (suc n) j h =
    elim (cases_eq j n) [
      | inl e ↦ subst (λ (k : ℕ). bit_at (number_of_bits f (suc n)) k ≡ (if f k then 1 else 0)) (sym e) (bit_at-top (f n) n (number_of_bits f n) (number_of_bits-lt f n))
      | inr other ↦
          let k : j < n = omega (arith, h, other) in
          bit_at_cat_low (if f n then 1 else 0) n (number_of_bits f n) j k ∙ bit_at-number_of_bits f n j k
    ]

-- a bit is 1 or 0
pub bit-from-test : (n j : ℕ) → (if bit_at n j == 1 then 1 else 0) ≡ bit_at n j
bit-from-test n j =
    let small = bit_at-lt n j in
    elim (cases_eq (bit_at n j) 1) [
      | inl e ↦ ap (λ (b : Bool). if b then 1 else 0) (eq-eqb (bit_at n j) 1 e) ∙ sym e
      | inr other ↦ ap (λ (b : Bool). if b then 1 else 0) (ne_eqb (bit_at n j) 1 other) ∙ (let e : 0 ≡ bit_at n j = omega (arith, small, other) in e)
    ]

-- a bit's test, where the bit was made by a test
pub test-from-bit : (b : Bool) → ((if b then 1 else 0) == 1) ≡ b
test-from-bit true = refl
test-from-bit false = refl

-- those numbers of a range that pass a test
abbrev passing : (ℕ → Bool) → ℕ → ℕ → List ℕ
passing test a n = filter test (range_with_len a n)

among-cons : (x c : ℕ) (xs : List ℕ) (b : Bool) → is_among (cond b (x ∷ xs) xs) c ≡ (cond b (x == c) false || is_among xs c)
among-cons x c xs true = refl
among-cons x c xs false = refl

none_of-two : (b x y : Bool) → x ≡ false → y ≡ false → (cond b x false || y) ≡ false
none_of-two true x y first second = rw (first, second) refl
none_of-two false x y first second = second

first_of-two : (b x y : Bool) → x ≡ true → y ≡ false → (cond b x false || y) ≡ b
first_of-two true x y first second = rw first refl
first_of-two false x y first second = second

second_of-two : (b x y : Bool) → x ≡ false → (cond b x false || y) ≡ y
second_of-two true x y first = rw first refl
second_of-two false x y first = refl

among-below : (test : ℕ → Bool) (a n c : ℕ) → c < a → is_among (passing test a n) c ≡ false
among-below test a zero c h = refl
among-below test a (suc n) c h =
    among-cons a c (passing test (a + 1) n) (test a)
    ∙ none_of-two (test a) (a == c) (is_among (passing test (a + 1) n) c) (ne_eqb a c (λ e. omega (arith, h, e))) (among-below test (a + 1) n c (omega (arith, h)))

pub among-passing : (test : ℕ → Bool) (a n c : ℕ) → a ≤ c → c < a + n → is_among (passing test a n) c ≡ test c
among-passing test a zero c low high = absurd (omega (arith, low, high))
among-passing test a (suc n) c low high =
    among-cons a c (passing test (a + 1) n) (test a)
    ∙ elim (cases_eq a c) [
      | inl e ↦
          first_of-two (test a) (a == c) (is_among (passing test (a + 1) n) c) (eq-eqb a c e) (among-below test (a + 1) n c (omega (arith, e)))
          ∙ ap test e
      | inr other ↦
          second_of-two (test a) (a == c) (is_among (passing test (a + 1) n) c) (ne_eqb a c other)
          ∙ among-passing test (a + 1) n c (omega (arith, low, other)) (omega (arith, high))
    ]

among-numbers_with : (test : ℕ → Bool) (most c : ℕ) → 1 ≤ c → c ≤ most → is_among (numbers_with test most) c ≡ test c
unfolding numbers_with
among-numbers_with test most c low high = among-passing test 1 most c low (omega (arith, high))

-- the count of a bit of a word
is_held-at : (words : List ℕ) (word bit : ℕ) → bit < 64 → is_held words (64 * word + bit + 1) ≡ (bit_at (slice_index words word) bit == 1)
is_held-at words word bit h =
    let at : (64 * word + bit + 1 - 1) / 64 ≡ word = omega (arith, h) in
    let in_word : (64 * word + bit + 1 - 1) % 64 ≡ bit = omega (arith, h) in
    rw (at, in_word) refl

-- the words of the counts that are in a set are the set
pub words_of-counts_of : (words : List ℕ) → IsSet words → words_of (counts_of words) ≡ words
unfolding words_of
words_of-counts_of words h =
    let f : ℕ → ℕ = λ word. number_of_bits (λ bit. is_among (counts_of words) (64 * word + bit + 1)) 64 in
    sym (fill_by_all f words 64 0 h.all (λ word within. same_word word within))
  where
    same_bit : (word bit : ℕ) → word < 64 → bit < 64
        → bit_at (slice_index words word) bit ≡ bit_at (number_of_bits (λ bit. is_among (counts_of words) (64 * word + bit + 1)) 64) bit
    same_bit word bit within small =
        sym (bit-from-test (slice_index words word) bit)
        ∙ ap (λ (b : Bool). if b then 1 else 0) (sym (among-numbers_with (is_held words) MOST_COMMANDS (64 * word + bit + 1) (omega arith) (omega (arith, within, small)) ∙ is_held-at words word bit small))
        ∙ sym (bit_at-number_of_bits (λ bit. is_among (counts_of words) (64 * word + bit + 1)) 64 bit small)

    same_word : (word : ℕ) → word < 64 → get_or words word 0 ≡ number_of_bits (λ bit. is_among (counts_of words) (64 * word + bit + 1)) 64
    same_word word within =
        same_from_bits_below 64 (slice_index words word) (number_of_bits (λ bit. is_among (counts_of words) (64 * word + bit + 1)) 64)
        (h.fits word) (number_of_bits-lt (λ bit. is_among (counts_of words) (64 * word + bit + 1)) 64) (λ bit small. same_bit word bit within small)

-- numbers that rise are those of a range that are among them
lower : (least most : ℕ) (xs : List ℕ) → RiseWithin (least + 1) most xs → RiseWithin least most xs
lower least most [] h = tt
lower least most (x ∷ xs) h = (omega (arith, h.0), h.1, h.2)

passing-rise : (test : ℕ → Bool) (a n most : ℕ) → a + n ≤ most + 1 → RiseWithin a most (passing test a n)
passing-rise test a zero most h = tt
passing-rise test a (suc n) most h = with_first (test a) (passing-rise test (a + 1) n most (omega (arith, h)))
  where
    with_first : (b : Bool) → RiseWithin (a + 1) most (passing test (a + 1) n) → RiseWithin a most (cond b (a ∷ passing test (a + 1) n) (passing test (a + 1) n))
    with_first true rest = (omega arith, omega (arith, h), rest)
    with_first false rest = lower a most (passing test (a + 1) n) rest

none-less : (least most c : ℕ) (xs : List ℕ) → RiseWithin least most xs → c < least → is_among xs c ≡ false
none-less least most c [] h less = refl
none-less least most c (x ∷ xs) h less =
    rw (ne_eqb x c (λ e. omega (arith, h.0, less, e))) (none-less (x + 1) most c xs h.2 (omega (arith, h.0, less)))

same_passing : (p q : ℕ → Bool) (a n : ℕ) → ((c : ℕ) → a ≤ c → c < a + n → p c ≡ q c) → passing p a n ≡ passing q a n
same_passing p q a zero h = refl
same_passing p q a (suc n) h =
    ap (λ (b : Bool). cond b (a ∷ passing p (a + 1) n) (passing p (a + 1) n)) (h a (omega arith) (omega arith))
    ∙ ap (λ (xs : List ℕ). cond (q a) (a ∷ xs) xs) (same_passing p q (a + 1) n (λ c low high. h c (omega (arith, low)) (omega (arith, high))))

passing-among : (a n most : ℕ) (xs : List ℕ) → most < a + n → RiseWithin a most xs → passing (is_among xs) a n ≡ xs
passing-among a zero most [] room h = refl
passing-among a zero most (x ∷ xs) room h = absurd (omega (arith, room, h.0, h.1))
passing-among a (suc n) most [] room h = passing-among (a + 1) n most [] (omega (arith, room)) tt
passing-among a (suc n) most (x ∷ xs) room h =
    elim (cases_eq x a) [
      | inl e ↦
          let here : is_among (x ∷ xs) a ≡ true = rw (eq-eqb x a e) refl in
          ap (λ (b : Bool). cond b (a ∷ passing (is_among (x ∷ xs)) (a + 1) n) (passing (is_among (x ∷ xs)) (a + 1) n)) here
          ∙ ap (λ (ys : List ℕ). a ∷ ys) (same_passing (is_among (x ∷ xs)) (is_among xs) (a + 1) n (λ c low high. rw (ne_eqb x c (λ f. omega (arith, low, e, f))) refl))
          ∙ ap (λ (ys : List ℕ). a ∷ ys) (passing-among (a + 1) n most xs (omega (arith, room)) (subst (λ (k : ℕ). RiseWithin (k + 1) most xs) e h.2))
          ∙ ap (λ (k : ℕ). k ∷ xs) (sym e)
      | inr other ↦
          let above : a < x = omega (arith, h.0, other) in
          let rising : RiseWithin (a + 1) most (x ∷ xs) = (omega (arith, above), h.1, h.2) in
          ap (λ (b : Bool). cond b (a ∷ passing (is_among (x ∷ xs)) (a + 1) n) (passing (is_among (x ∷ xs)) (a + 1) n)) (none-less (a + 1) most a (x ∷ xs) rising (omega arith))
          ∙ passing-among (a + 1) n most (x ∷ xs) (omega (arith, room)) rising
    ]

numbers_with-among : (most : ℕ) (counts : List ℕ) → RiseWithin 1 most counts → numbers_with (is_among counts) most ≡ counts
unfolding numbers_with
numbers_with-among most counts h = passing-among 1 most most counts (omega arith) h

pub numbers_with-same : (p q : ℕ → Bool) (most : ℕ) → ((c : ℕ) → 1 ≤ c → c ≤ most → p c ≡ q c) → numbers_with p most ≡ numbers_with q most
unfolding numbers_with
numbers_with-same p q most h = same_passing p q 1 most (λ c low high. h c low (omega (arith, high)))

numbers_with-rise : (test : ℕ → Bool) (most : ℕ) → RiseWithin 1 most (numbers_with test most)
unfolding numbers_with
numbers_with-rise test most = passing-rise test 1 most most (omega arith)

-- the set of counts holds just these
length-words_of : (counts : List ℕ) → length (words_of counts) ≡ 64
unfolding words_of
length-words_of counts = length-map-range_with_len (λ word. number_of_bits (λ bit. is_among counts (64 * word + bit + 1)) 64) 0 64

word_of : (counts : List ℕ) (word : ℕ) → word < 64 → slice_index (words_of counts) word ≡ number_of_bits (λ bit. is_among counts (64 * word + bit + 1)) 64
unfolding words_of
word_of counts word within =
    get_or-map-range_with_len (λ word. number_of_bits (λ bit. is_among counts (64 * word + bit + 1)) 64) 0 64 word word 0 within (omega arith)

is_held-words_of : (counts : List ℕ) (c : ℕ) → 1 ≤ c → c ≤ 4096 → is_held (words_of counts) c ≡ is_among counts c
is_held-words_of counts c low high =
    let word = (c - 1) / 64 in
    let bit = (c - 1) % 64 in
    let within : word < 64 = omega (arith, high) in
    let small : bit < 64 = omega arith in
    let whole : 64 * word + bit + 1 ≡ c = omega (arith, low) in
    ap (λ (n : ℕ). bit_at n bit == 1) (word_of counts word within)
    ∙ ap (λ (n : ℕ). n == 1) (bit_at-number_of_bits (λ bit. is_among counts (64 * word + bit + 1)) 64 bit small)
    ∙ test-from-bit (is_among counts (64 * word + bit + 1))
    ∙ ap (is_among counts) whole

fits-words_of : (counts : List ℕ) (word : ℕ) → slice_index (words_of counts) word < 2 ^ 64
fits-words_of counts word =
    elim (cases_lt word 64) [
      | inl within ↦
          subst (λ (n : ℕ). n < 2 ^ 64) (sym (word_of counts word within)) (number_of_bits-lt (λ bit. is_among counts (64 * word + bit + 1)) 64)
      | inr past ↦
          let none : slice_index (words_of counts) word ≡ 0 = get_or_past (words_of counts) word 0 (omega (arith, past, length-words_of counts)) in
          omega (arith, none)
    ]

-- counts at the ends of turns
rise-ends : (counts : List ℕ) → AreEnds counts → RiseWithin 1 MOST_COMMANDS counts
rise-ends [] h = absurd h
rise-ends (first ∷ others) h =
    (omega (arith, h.0), omega (arith, h.0), subst (λ (k : ℕ). RiseWithin (k + 1) MOST_COMMANDS others) (sym h.0) h.1)

among-ends : (counts : List ℕ) → AreEnds counts → is_among counts 1 ≡ true
among-ends [] h = absurd h
among-ends (first ∷ others) h = rw (eq-eqb first 1 h.0) refl

ends-rise : (counts : List ℕ) → RiseWithin 1 MOST_COMMANDS counts → is_among counts 1 ≡ true → AreEnds counts
ends-rise [] h some = absurd cc
ends-rise (first ∷ others) h some =
    elim (cases_eq first 1) [
      | inl e ↦ (e, subst (λ (k : ℕ). RiseWithin (k + 1) MOST_COMMANDS others) e h.2)
      | inr other ↦
          let rising : RiseWithin 2 MOST_COMMANDS (first ∷ others) = (omega (arith, h.0, other), h.1, h.2) in
          let none = none-less 2 MOST_COMMANDS 1 (first ∷ others) rising (omega arith) in
          absurd (both_ways (is_among (first ∷ others) 1) none some)
    ]

-- the set of such counts holds just them, and the counts in a set are such
pub counts_of-words_of : (counts : List ℕ) → AreEnds counts → counts_of (words_of counts) ≡ counts
counts_of-words_of counts h =
    numbers_with-same (is_held (words_of counts)) (is_among counts) MOST_COMMANDS (is_held-words_of counts)
    ∙ numbers_with-among MOST_COMMANDS counts (rise-ends counts h)

pub are_set : (counts : List ℕ) → AreEnds counts → IsSet (words_of counts)
are_set counts h = record {
  all = length-words_of counts;
  fits = fits-words_of counts;
  opening = is_held-words_of counts 1 (omega arith) (omega arith) ∙ among-ends counts h;
}

pub are_ends : (words : List ℕ) → IsSet words → AreEnds (counts_of words)
are_ends words h =
    ends-rise (counts_of words) (numbers_with-rise (is_held words) MOST_COMMANDS)
    (among-numbers_with (is_held words) MOST_COMMANDS 1 (omega arith) (omega arith) ∙ h.opening)
