-- Marks as words have them: what one bit more, or one less, makes of them.
use Rattle.std.proofs.Common.{◌≡◌, ◌≢◌, ℕ, ◌/◌, ◌%◌, ◌<◌, ◌≤◌, Bool, false, cond, eqb, ltb, not, ◌||◌, List, length, get_or, set, max, refl, sym, ap, ap₂, ◌∙◌, arith, zero, suc, inl, inr, Some, None}
use Rattle.std.proofs.lemmas.List.{ext_get_or, length-set, get_or-set_same, get_or-set_other, get_or_past}
use Rattle.std.proofs.lemmas.List.FromFn.{length-map-range_with_len, get_or-map-range_with_len}
use Rattle.std.proofs.lemmas.List.Sums.{position_or_len_is}
use Rattle.std.proofs.lemmas.Nat.Bits.{bit_at-lt}
use Rattle.std.proofs.lemmas.Bool.{cases_eq, cases_lt, cond-true, cond-false, eq-eqb, ne_eqb, lt-ltb, le-ltb}
use Rattle.std.proofs.lemmas.Simd.{length-zip2, get_or-zip2}
use Rattle.std.specs.List.{position, position_or_len}
use lib.Lanes.{zip2}
use Rattle.rr_pages.specs.Marks.{bit_of, marks_in, NoneFrom}

pub length-marks_in : (pages : ℕ) (words : List ℕ) → length (marks_in pages words) ≡ pages
unfolding marks_in
length-marks_in pages words = length-map-range_with_len (λ page. eqb (bit_of words page) 1) 0 pages

pub get_or-marks_in : (pages : ℕ) (words : List ℕ) (page : ℕ) (d : Bool) → page < pages → get_or (marks_in pages words) page d ≡ eqb (bit_of words page) 1
unfolding marks_in
get_or-marks_in pages words page d below = get_or-map-range_with_len (λ page. eqb (bit_of words page) 1) 0 pages page page d below (omega arith)

-- past the last page too
pub mark_of : (pages : ℕ) (words : List ℕ) (page : ℕ) → NoneFrom pages words → get_or (marks_in pages words) page false ≡ eqb (bit_of words page) 1
mark_of pages words page none =
    elim (cases_lt page pages) [
      | inl below ↦ get_or-marks_in pages words page false below
      | inr past ↦ get_or_past (marks_in pages words) page false (omega (arith, length-marks_in pages words)) ∙ sym (ap (λ b. eqb b 1) (none page past))
    ]

bit-lt : (words : List ℕ) (page : ℕ) → bit_of words page < 2
bit-lt words page = bit_at-lt (get_or words (page / 64) 0) (page % 64)

-- a bit by its mark
pub bit_by_mark : (pages : ℕ) (words : List ℕ) (page : ℕ) → NoneFrom pages words → bit_of words page ≡ cond (get_or (marks_in pages words) page false) 1 0
bit_by_mark pages words page none =
    elim (cases_eq (bit_of words page) 1) [
      | inl one ↦ one ∙ sym (cond-true _ _ _ (mark_of pages words page none ∙ eq-eqb _ _ one))
      | inr other ↦ (let nil : bit_of words page ≡ 0 = omega (arith, bit-lt words page) in nil ∙ sym (cond-false _ _ _ (mark_of pages words page none ∙ ne_eqb _ _ other)))
    ]

-- one bit is changed, and no other
pub changed : (pages : ℕ) (old new : List ℕ) (page b : ℕ) → page < pages → bit_of new page ≡ b → ((other : ℕ) → other ≢ page → bit_of new other ≡ bit_of old other)
    → marks_in pages new ≡ set (marks_in pages old) page (eqb b 1)
changed pages old new page b below here others =
    ext_get_or false _ _ (length-marks_in pages new ∙ sym (length-set (marks_in pages old) page (eqb b 1) ∙ length-marks_in pages old))
    (λ i lt.
    let within : i < pages = omega (arith, length-marks_in pages new) in
    get_or-marks_in pages new i false within
    ∙ elim (cases_eq i page) [
      | inl same ↦ ap (λ p. eqb (bit_of new p) 1) same ∙ ap (λ bit. eqb bit 1) here
          ∙ sym (ap (λ p. get_or (set (marks_in pages old) page (eqb b 1)) p false) same ∙ get_or-set_same (marks_in pages old) page (eqb b 1) false (omega (arith, length-marks_in pages old)))
      | inr other ↦ ap (λ bit. eqb bit 1) (others i other)
          ∙ sym (get_or-set_other (marks_in pages old) page i (eqb b 1) false other ∙ get_or-marks_in pages old i false within)
    ])

either : (a b : ℕ) → a < 2 → b < 2 → eqb (max a b) 1 ≡ (eqb a 1 || eqb b 1)
either zero zero h k = refl
either zero (suc zero) h k = refl
either zero (suc (suc b)) h k = absurd (omega arith)
either (suc zero) zero h k = refl
either (suc zero) (suc zero) h k = refl
either (suc zero) (suc (suc b)) h k = absurd (omega arith)
either (suc (suc a)) b h k = absurd (omega arith)

-- each bit is set that one of the two has
pub united : (pages : ℕ) (own others new : List ℕ) → ((page : ℕ) → bit_of new page ≡ max (bit_of own page) (bit_of others page))
    → marks_in pages new ≡ zip2 (λ a b. a || b) (marks_in pages own) (marks_in pages others)
united pages own others new each =
    let long : length (marks_in pages own) ≡ length (marks_in pages others) = length-marks_in pages own ∙ sym (length-marks_in pages others) in
    ext_get_or false _ _ (length-marks_in pages new ∙ sym (length-zip2 (λ a b. a || b) (marks_in pages own) (marks_in pages others) long ∙ length-marks_in pages own))
    (λ i lt.
    let within : i < pages = omega (arith, length-marks_in pages new) in
    get_or-marks_in pages new i false within ∙ ap (λ bit. eqb bit 1) (each i)
    ∙ either (bit_of own i) (bit_of others i) (bit-lt own i) (bit-lt others i)
    ∙ sym (get_or-zip2 (λ a b. a || b) (marks_in pages own) (marks_in pages others) i false false false (omega (arith, length-marks_in pages own)) (omega (arith, length-marks_in pages others))
    ∙ ap₂ (λ a b. a || b) (get_or-marks_in pages own i false within) (get_or-marks_in pages others i false within)))

first_is : (pages : ℕ) (words : List ℕ) (i : ℕ) → i ≤ pages → ((page : ℕ) → page < i → bit_of words page ≡ 1) → (i < pages → bit_of words i ≡ 0)
    → position_or_len not (marks_in pages words) ≡ i
first_is pages words i within ones nil =
    position_or_len_is not (marks_in pages words) i false (omega (arith, length-marks_in pages words))
    (λ k lt. ap not (get_or-marks_in pages words k false (omega arith) ∙ ap (λ bit. eqb bit 1) (ones k lt)))
    (λ lt. let below : i < pages = omega (arith, length-marks_in pages words) in ap not (get_or-marks_in pages words i false below ∙ ap (λ bit. eqb bit 1) (nil below)))

-- the first page with no bit set
pub found : (pages : ℕ) (words : List ℕ) (i : ℕ) → i < pages → ((page : ℕ) → page < i → bit_of words page ≡ 1) → bit_of words i ≡ 0 → position not (marks_in pages words) ≡ Some i
found pages words i within ones nil =
    ap (λ n. cond (ltb n (length (marks_in pages words))) (Some n) None) (first_is pages words i (omega arith) ones (λ _. nil))
    ∙ cond-true _ _ _ (lt-ltb i (length (marks_in pages words)) (omega (arith, length-marks_in pages words)))

-- none has
pub not_found : (pages : ℕ) (words : List ℕ) → ((page : ℕ) → page < pages → bit_of words page ≡ 1) → position not (marks_in pages words) ≡ None
not_found pages words ones =
    ap (λ n. cond (ltb n (length (marks_in pages words))) (Some n) None) (first_is pages words pages (omega arith) ones (λ lt. absurd (omega arith)))
    ∙ cond-false _ _ _ (le-ltb pages (length (marks_in pages words)) (omega (arith, length-marks_in pages words)))

-- no bit is set
pub unmarked : (pages : ℕ) (words : List ℕ) → ((page : ℕ) → bit_of words page ≡ 0) → (page : ℕ) → get_or (marks_in pages words) page false ≡ false
unmarked pages words nil page = mark_of pages words page (λ p _. nil p) ∙ ap (λ bit. eqb bit 1) (nil page)
