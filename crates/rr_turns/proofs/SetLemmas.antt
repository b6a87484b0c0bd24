-- Sets of counts: what a word tells, and a count more.
use Rattle.std.proofs.Common.{◌≡◌, ◌≢◌, ℕ, zero, suc, ◌+◌, ◌-◌, ◌*◌, ◌/◌, ◌%◌, ◌^◌, ◌<◌, ◌≤◌, Bool, true, false, List, [], ◌∷◌, length, cond, refl, sym, ap, ◌∙◌, subst, inl, inr, eq-eqb, arith, length-append}
use Rattle.std.specs.Prelude.{min, replicate, count_ones, slice_index, slice_set, bit_and, bit_or, if◌then◌else◌, ◌==◌}
use Rattle.std.specs.List.{filter, range_with_len}
use Rattle.std.specs.Int.{bit_at, w64}
use Rattle.std.specs.Int.Count.{ones_step, ones-le}
use Rattle.std.proofs.Math.Nat.{pow-suc, mod-lt}
use Rattle.std.proofs.lemmas.Nat.{ones_le_self, or_lt}
use Rattle.std.proofs.lemmas.Nat.Bits.{bit_at_lowest, bit_at-suc, bit_at_above, bit_at-lt, bit_at-zero, bit_at_and, bit_at_ones, bit_at_ones_above, bit_at_set_same, bit_at_set_other, ones_shr}
use Rattle.std.proofs.lemmas.List.{get_or-replicate, get_or-set_same, get_or-set_other, get_or_past, length-replicate, length-set}
use Rattle.std.proofs.lemmas.Bool.{cases_eq, cases_lt}
use Rattle.rr_turns.specs.Counts.{IsSet, counts_of, is_held, numbers_with}
use Rattle.rr_turns.specs.Sets.{bit-from-test}
use Rattle.rr_turns.proofs.CountLemmas.{none-above, numbers_with-split}

-- whether the count of a place is in a set
pub is_held-next : (words : List ℕ) (place : ℕ) → is_held words (place + 1) ≡ (bit_at (slice_index words (place / 64)) (place % 64) == 1)
is_held-next words place = ap (λ (k : ℕ). bit_at (slice_index words (k / 64)) (k % 64) == 1) (let e : place + 1 - 1 ≡ place = omega arith in e)

-- with the count of a place
abbrev pub with_place : List ℕ → ℕ → List ℕ
with_place words place = slice_set words (place / 64) (bit_or (slice_index words (place / 64)) (1 * 2 ^ (place % 64) % 2 ^ 64))

pub held-with : (words : List ℕ) (place : ℕ) → length words ≡ 64 → place < 4096 → is_held (with_place words place) (place + 1) ≡ true
held-with words place all within =
    let word : ℕ = bit_or (slice_index words (place / 64)) (1 * 2 ^ (place % 64) % 2 ^ 64) in
    is_held-next (with_place words place) place
    ∙ ap (λ (n : ℕ). bit_at n (place % 64) == 1) (get_or-set_same words (place / 64) word 0 (omega (arith, all, within)))
    ∙ eq-eqb (bit_at word (place % 64)) 1 (bit_at_set_same w64 (slice_index words (place / 64)) (place % 64) (omega arith))

pub others-with : (words : List ℕ) (place other : ℕ) → length words ≡ 64 → place < 4096 → other ≢ place → is_held (with_place words place) (other + 1) ≡ is_held words (other + 1)
others-with words place other all within apart =
    let word : ℕ = bit_or (slice_index words (place / 64)) (1 * 2 ^ (place % 64) % 2 ^ 64) in
    is_held-next (with_place words place) other
    ∙ elim (cases_eq (other / 64) (place / 64)) [
      | inl e ↦
          let bit_apart : other % 64 ≢ place % 64 = λ f. apart (omega (arith, e, f)) in
          ap (λ (k : ℕ). bit_at (slice_index (with_place words place) k) (other % 64) == 1) e
          ∙ ap (λ (n : ℕ). bit_at n (other % 64) == 1) (get_or-set_same words (place / 64) word 0 (omega (arith, all, within)))
          ∙ ap (λ (n : ℕ). n == 1) (bit_at_set_other w64 (slice_index words (place / 64)) (place % 64) (omega arith) (other % 64) bit_apart)
          ∙ ap (λ (k : ℕ). bit_at (slice_index words k) (other % 64) == 1) (sym e)
      | inr word_apart ↦ ap (λ (n : ℕ). bit_at n (other % 64) == 1) (get_or-set_other words (place / 64) (other / 64) word 0 word_apart)
    ]
    ∙ sym (is_held-next words other)

-- how many counts a word tells
length-first : (b : Bool) (x : ℕ) (xs : List ℕ) → length (cond b (x ∷ xs) xs) ≡ (if b then 1 else 0) + length xs
length-first true x xs = omega arith
length-first false x xs = omega arith

length-passing : (test : ℕ → Bool) (a n word : ℕ) → word < 2 ^ n → ((j : ℕ) → j < n → test (a + j) ≡ (bit_at word j == 1))
    → length (filter test (range_with_len a n)) ≡ count_ones word
length-passing test a zero word fits h = omega (arith, fits, ones_le_self word)
length-passing test a (suc n) word fits h =
    let first : test a ≡ (bit_at word 0 == 1) = ap test (let e : a ≡ a + 0 = omega arith in e) ∙ h 0 (omega arith) in
    let half : word / 2 < 2 ^ n = omega (arith, fits, pow-suc 2 n) in
    let rest = length-passing test (a + 1) n (word / 2) half
    (λ j less. ap test (let e : a + 1 + j ≡ a + suc j = omega arith in e) ∙ h (suc j) (omega (arith, less)) ∙ ap (λ (m : ℕ). m == 1) (bit_at-suc word j)) in
    let one : (if test a then 1 else 0) ≡ word % 2 = ap (λ (b : Bool). if b then 1 else 0) first ∙ bit-from-test word 0 ∙ bit_at_lowest word in
    let all = length-first (test a) a (filter test (range_with_len (a + 1) n)) in
    omega (arith, all, one, rest, ones_step word)

pub length-word : (words : List ℕ) (word : ℕ) → slice_index words word < 2 ^ 64
    → length (numbers_with (is_held words) (64 * word + 64)) ≡ length (numbers_with (is_held words) (64 * word)) + count_ones (slice_index words word)
length-word words word fits =
    let here = length-passing (is_held words) (64 * word + 1) 64 (slice_index words word) fits (λ j less. in_word j less) in
    ap length (numbers_with-split (is_held words) (64 * word) 64)
    ∙ length-append (numbers_with (is_held words) (64 * word)) (filter (is_held words) (range_with_len (64 * word + 1) 64))
    ∙ ap (λ (n : ℕ). length (numbers_with (is_held words) (64 * word)) + n) here
  where
    in_word : (j : ℕ) → j < 64 → is_held words (64 * word + 1 + j) ≡ (bit_at (slice_index words word) j == 1)
    in_word j less =
        ap (is_held words) (let e : 64 * word + 1 + j ≡ 64 * word + j + 1 = omega arith in e)
        ∙ is_held-next words (64 * word + j)
        ∙ ap (λ (k : ℕ). bit_at (slice_index words k) ((64 * word + j) % 64) == 1) (let e : (64 * word + j) / 64 ≡ word = omega (arith, less) in e)
        ∙ ap (λ (k : ℕ). bit_at (slice_index words word) k == 1) (let e : (64 * word + j) % 64 ≡ j = omega (arith, less) in e)

pub few-in_word : (words : List ℕ) (word : ℕ) → slice_index words word < 2 ^ 64 → count_ones (slice_index words word) ≤ 64
few-in_word words word fits = ones-le 64 (slice_index words word) fits

-- none is held in words that are 0
pub none-held_above : (words : List ℕ) (last : ℕ) → ((k : ℕ) → last < k → k < 64 → slice_index words k ≡ 0)
    → (place : ℕ) → 64 * (last + 1) ≤ place → place < 4096 → is_held words (place + 1) ≡ false
none-held_above words last empty place low high =
    is_held-next words place
    ∙ ap (λ (word : ℕ). bit_at word (place % 64) == 1) (empty (place / 64) (omega (arith, low)) (omega (arith, high)))
    ∙ ap (λ (bit : ℕ). bit == 1) (bit_at-zero (place % 64))

-- words that begin as others do and then have the low bits of one, and no more
pub kept-below : (words mid : List ℕ) (place low other : ℕ) → length mid ≡ 64 → place < 4096
    → ((k : ℕ) → k < place / 64 → slice_index mid k ≡ slice_index words k)
    → ((k : ℕ) → k ≤ place % 64 → bit_at low k ≡ bit_at (slice_index words (place / 64)) k)
    → other ≤ place → is_held (slice_set mid (place / 64) low) (other + 1) ≡ is_held words (other + 1)
kept-below words mid place low other all within before bits le =
    is_held-next (slice_set mid (place / 64) low) other
    ∙ elim (cases_eq (other / 64) (place / 64)) [
      | inl e ↦
          ap (λ (k : ℕ). bit_at (slice_index (slice_set mid (place / 64) low) k) (other % 64) == 1) e
          ∙ ap (λ (n : ℕ). bit_at n (other % 64) == 1) (get_or-set_same mid (place / 64) low 0 (omega (arith, all, within)))
          ∙ ap (λ (n : ℕ). n == 1) (bits (other % 64) (omega (arith, e, le)))
          ∙ ap (λ (k : ℕ). bit_at (slice_index words k) (other % 64) == 1) (sym e)
      | inr apart ↦
          ap (λ (n : ℕ). bit_at n (other % 64) == 1) (get_or-set_other mid (place / 64) (other / 64) low 0 apart ∙ before (other / 64) (omega (arith, apart, le)))
    ]
    ∙ sym (is_held-next words other)

pub kept-above : (mid : List ℕ) (place low other : ℕ) → length mid ≡ 64 → place < 4096
    → ((k : ℕ) → place / 64 < k → slice_index mid k ≡ 0)
    → ((k : ℕ) → place % 64 < k → bit_at low k ≡ 0)
    → place < other → is_held (slice_set mid (place / 64) low) (other + 1) ≡ false
kept-above mid place low other all within behind bits lt =
    is_held-next (slice_set mid (place / 64) low) other
    ∙ elim (cases_eq (other / 64) (place / 64)) [
      | inl e ↦
          ap (λ (k : ℕ). bit_at (slice_index (slice_set mid (place / 64) low) k) (other % 64) == 1) e
          ∙ ap (λ (n : ℕ). bit_at n (other % 64) == 1) (get_or-set_same mid (place / 64) low 0 (omega (arith, all, within)))
          ∙ ap (λ (n : ℕ). n == 1) (bits (other % 64) (omega (arith, e, lt)))
      | inr apart ↦
          ap (λ (n : ℕ). bit_at n (other % 64) == 1) (get_or-set_other mid (place / 64) (other / 64) low 0 apart ∙ behind (other / 64) (omega (arith, apart, lt)))
          ∙ ap (λ (n : ℕ). n == 1) (bit_at-zero (other % 64))
    ]

-- the low bits of a word
pub low_bits-below : (word bit k : ℕ) → bit < 64 → k ≤ bit → bit_at (bit_and word ((2 ^ 64 - 1) / 2 ^ (63 - bit))) k ≡ bit_at word k
low_bits-below word bit k small le =
    let ones : (2 ^ 64 - 1) / 2 ^ (63 - bit) ≡ 2 ^ (64 - (63 - bit)) - 1 = ones_shr 64 (63 - bit) (omega arith) in
    let one = bit_at_ones (64 - (63 - bit)) k (omega (arith, small, le)) in
    let at_most = bit_at-lt word k in
    bit_at_and word ((2 ^ 64 - 1) / 2 ^ (63 - bit)) k
    ∙ ap (λ (n : ℕ). min (bit_at word k) (bit_at n k)) ones
    ∙ ap (λ (n : ℕ). min (bit_at word k) n) one
    ∙ (let e : min (bit_at word k) 1 ≡ bit_at word k = omega (arith, at_most) in e)

pub low_bits-above : (word bit k : ℕ) → bit < 64 → bit < k → bit_at (bit_and word ((2 ^ 64 - 1) / 2 ^ (63 - bit))) k ≡ 0
low_bits-above word bit k small lt =
    let ones : (2 ^ 64 - 1) / 2 ^ (63 - bit) ≡ 2 ^ (64 - (63 - bit)) - 1 = ones_shr 64 (63 - bit) (omega arith) in
    let none = bit_at_ones_above (64 - (63 - bit)) k (omega (arith, small, lt)) in
    bit_at_and word ((2 ^ 64 - 1) / 2 ^ (63 - bit)) k
    ∙ ap (λ (n : ℕ). min (bit_at word k) (bit_at n k)) ones
    ∙ ap (λ (n : ℕ). min (bit_at word k) n) none
    ∙ (let e : min (bit_at word k) 0 ≡ 0 = omega arith in e)

-- the set of the opening's count
beyond : (k : ℕ) → slice_index (replicate 63 0) k ≡ 0
beyond k = elim (cases_lt k 63) [ inl within ↦ get_or-replicate 63 k 0 0 within | inr past ↦ get_or_past (replicate 63 0) k 0 (omega (arith, past, length-replicate {A = ℕ} 63 0)) ]

opening-fits : (k : ℕ) → slice_index (1 ∷ replicate 63 0) k < 2 ^ 64
opening-fits zero = omega arith
opening-fits (suc k) = omega (arith, beyond k)

pub opening-set : IsSet (1 ∷ replicate 63 0)
opening-set = record { all = refl; fits = opening-fits; opening = refl }

others-unheld : (word bit : ℕ) → 1 ≤ 64 * word + bit → bit_at (slice_index (1 ∷ replicate 63 0) word) bit ≡ 0
others-unheld zero bit h = bit_at_above 1 1 bit (omega arith) (omega (arith, h))
others-unheld (suc word) bit h = ap (λ (n : ℕ). bit_at n bit) (beyond word) ∙ bit_at-zero bit

one-number : (test : ℕ → Bool) → test 1 ≡ true → numbers_with test 1 ≡ 1 ∷ []
unfolding numbers_with
one-number test h = ap (λ (b : Bool). cond b (1 ∷ []) []) h

pub opening-counts : counts_of (1 ∷ replicate 63 0) ≡ 1 ∷ []
opening-counts =
    none-above (is_held (1 ∷ replicate 63 0)) 1 4096 (omega arith)
    (λ place low high. is_held-next (1 ∷ replicate 63 0) place
    ∙ ap (λ (n : ℕ). n == 1) (others-unheld (place / 64) (place % 64) (omega (arith, low))))
    ∙ one-number (is_held (1 ∷ replicate 63 0)) refl

-- a set with a count more is a set
fits-set : (words : List ℕ) (i word : ℕ) → ((k : ℕ) → slice_index words k < 2 ^ 64) → word < 2 ^ 64 → (k : ℕ) → slice_index (slice_set words i word) k < 2 ^ 64
fits-set words i word fits small k =
    elim (cases_eq k i) [
      | inl e ↦
          elim (cases_lt i (length words)) [
            | inl within ↦ subst (λ (j : ℕ). slice_index (slice_set words i word) j < 2 ^ 64) (sym e) (omega (arith, small, get_or-set_same words i word 0 within))
            | inr past ↦ omega (arith, get_or_past (slice_set words i word) k 0 (omega (arith, past, e, length-set words i word)))
          ]
      | inr apart ↦ omega (arith, get_or-set_other words i k word 0 apart, fits k)
    ]

pub set-with : (words : List ℕ) (place : ℕ) → place < 4096 → IsSet words → IsSet (with_place words place)
set-with words place within h =
    let word : ℕ = bit_or (slice_index words (place / 64)) (1 * 2 ^ (place % 64) % 2 ^ 64) in
    let small : word < 2 ^ 64 = or_lt 64 (slice_index words (place / 64)) (1 * 2 ^ (place % 64) % 2 ^ 64) (h.fits (place / 64)) (mod-lt (1 * 2 ^ (place % 64)) (omega arith)) in
    record {
      all = length-set words (place / 64) word ∙ h.all;
      fits = fits-set words (place / 64) word h.fits small;
      opening = elim (cases_eq 0 place) [
        | inl e ↦ subst (λ (k : ℕ). is_held (with_place words place) (k + 1) ≡ true) (sym e) (held-with words place h.all within)
        | inr apart ↦ others-with words place 0 h.all within apart ∙ h.opening
      ];
    }

-- a set without some of its greatest counts is a set
pub set-kept : (words mid : List ℕ) (place low end : ℕ) → IsSet words → length mid ≡ 64 → place < 4096 → 64 ≤ end
    → ((k : ℕ) → k ≤ place / 64 → slice_index mid k ≡ slice_index words k)
    → ((k : ℕ) → place / 64 < k → k < end → slice_index mid k ≡ 0)
    → low ≤ slice_index mid (place / 64)
    → is_held (slice_set mid (place / 64) low) 1 ≡ is_held words 1 → IsSet (slice_set mid (place / 64) low)
set-kept words mid place low end h all within whole same none less opening = record {
  all = length-set mid (place / 64) low ∙ all;
  fits = fits-set mid (place / 64) low small (omega (arith, less, small (place / 64)));
  opening = opening ∙ h.opening;
}
  where
    small : (k : ℕ) → slice_index mid k < 2 ^ 64
    small k = elim (cases_lt (place / 64) k) [
      | inl above ↦ elim (cases_lt k end) [
        | inl before ↦ omega (arith, none k above before)
        | inr past ↦ omega (arith, get_or_past mid k 0 (omega (arith, past, whole, all)))
      ]
      | inr below ↦ omega (arith, same k below, h.fits k)
    ]
