-- Bits of words.
use Rattle.std.proofs.Common.{◌≡◌, ◌≢◌, ℕ, ◌+◌, ◌-◌, ◌*◌, ◌/◌, ◌%◌, ◌^◌, ◌<◌, List, length, get_or, set, max, sym, ap, ap₂, ◌∙◌, arith, inl, inr, w64, replicate}
use Rattle.std.proofs.lemmas.List.{get_or-set_same, get_or-set_other, get_or_past, get_or_default, get_or-replicate, length-replicate}
use Rattle.std.proofs.lemmas.Nat.Bits.{bit_at-zero, bit_at_ones, bit_at-trailing_ones, bit_at_or, bit_at_set_same, bit_at_set_other, bit_at_clear_same, bit_at_clear_other}
use Rattle.std.proofs.lemmas.Bool.{cases_eq, cases_lt}
use Rattle.std.specs.Int.{bit_at, bit_not, trailing_ones}
use Rattle.std.specs.Int.Bits.{bit_or}
use lib.Bits.{bit_and}
use Rattle.rr_pages.specs.Marks.{AreWordsFor, bit_of, NoneFrom}

-- of words with no bit set
pub bit_of-zeros : (n page : ℕ) → bit_of (replicate n 0) page ≡ 0
bit_of-zeros n page =
    elim (cases_lt (page / 64) n) [
      | inl lt ↦ ap (λ w. bit_at w (page % 64)) (get_or-replicate n (page / 64) 0 0 lt) ∙ bit_at-zero (page % 64)
      | inr ge ↦ ap (λ w. bit_at w (page % 64)) (get_or_past (replicate n 0) (page / 64) 0 (omega (arith, length-replicate {A = ℕ} n 0))) ∙ bit_at-zero (page % 64)
    ]

pub zeros_fit : (pages n : ℕ) (words : List ℕ) → words ≡ replicate n 0 → n ≡ (pages + 63) / 64 → AreWordsFor pages words
zeros_fit pages n words is long = record { whole = ap length is ∙ length-replicate {A = ℕ} n 0 ∙ long; past = λ page _. ap (λ ws. bit_of ws page) is ∙ bit_of-zeros n page }

-- of words that come before one with a bit not set
pub bit_of-full : (words : List ℕ) (upto : ℕ) → ((j : ℕ) → j < upto → get_or words j 0 ≡ 18446744073709551615) → (page : ℕ) → page < 64 * upto → bit_of words page ≡ 1
bit_of-full words upto full page lt = ap (λ w. bit_at w (page % 64)) (full (page / 64) (omega arith)) ∙ bit_at_ones 64 (page % 64) (omega arith)

-- a bit by its word and its place there
pub bit_of-at : (words : List ℕ) (j i : ℕ) → i < 64 → bit_of words (64 * j + i) ≡ bit_at (get_or words j 0) i
bit_of-at words j i lt =
    let word : (64 * j + i) / 64 ≡ j = omega arith in
    let place : (64 * j + i) % 64 ≡ i = omega arith in
    ap₂ (λ k r. bit_at (get_or words k 0) r) word place

-- one word is another now
pub bit_of-set_same : (words : List ℕ) (page w : ℕ) → page / 64 < length words → bit_of (set words (page / 64) w) page ≡ bit_at w (page % 64)
bit_of-set_same words page w lt = ap (λ v. bit_at v (page % 64)) (get_or-set_same words (page / 64) w 0 lt)

pub bit_of-set_other : (words : List ℕ) (page w other : ℕ) → page / 64 < length words → ((i : ℕ) → i < 64 → i ≢ page % 64 → bit_at w i ≡ bit_at (get_or words (page / 64) 0) i) → other ≢ page
    → bit_of (set words (page / 64) w) other ≡ bit_of words other
bit_of-set_other words page w other lt rest differs =
    elim (cases_eq (other / 64) (page / 64)) [
      | inl same ↦ (
          let apart : other % 64 ≢ page % 64 = omega arith in
          ap (λ j. bit_at (get_or (set words (page / 64) w) j 0) (other % 64)) same ∙ ap (λ v. bit_at v (other % 64)) (get_or-set_same words (page / 64) w 0 lt)
          ∙ rest (other % 64) (omega arith) apart ∙ sym (ap (λ j. bit_at (get_or words j 0) (other % 64)) same))
      | inr apart ↦ ap (λ v. bit_at v (other % 64)) (get_or-set_other words (page / 64) (other / 64) w 0 apart)
    ]

-- `1 << k` put into a word, and taken out of it
abbrev pub with_bit : ℕ → ℕ → ℕ
with_bit w k = bit_or w (1 * 2 ^ k % 2 ^ 64)

abbrev pub without_bit : ℕ → ℕ → ℕ
without_bit w k = bit_and w (bit_not w64 (1 * 2 ^ k % 2 ^ 64))

module _ (words : List ℕ) (page word : ℕ) (lt : page / 64 < length words) (is : word ≡ get_or words (page / 64) word) where
  read : word ≡ get_or words (page / 64) 0
  read = is ∙ get_or_default words (page / 64) word 0 lt

  pub taken_here : bit_of (set words (page / 64) (with_bit word (page % 64))) page ≡ 1
  taken_here = bit_of-set_same words page (with_bit word (page % 64)) lt ∙ bit_at_set_same w64 word (page % 64) (omega arith)

  pub taken_elsewhere : (other : ℕ) → other ≢ page → bit_of (set words (page / 64) (with_bit word (page % 64))) other ≡ bit_of words other
  taken_elsewhere other = bit_of-set_other words page (with_bit word (page % 64)) other lt (λ i _ apart. bit_at_set_other w64 word (page % 64) (omega arith) i apart ∙ ap (λ w. bit_at w i) read)

  pub freed_here : bit_of (set words (page / 64) (without_bit word (page % 64))) page ≡ 0
  freed_here = bit_of-set_same words page (without_bit word (page % 64)) lt ∙ bit_at_clear_same w64 word (page % 64) (omega arith)

  pub freed_elsewhere : (other : ℕ) → other ≢ page → bit_of (set words (page / 64) (without_bit word (page % 64))) other ≡ bit_of words other
  freed_elsewhere other = bit_of-set_other words page (without_bit word (page % 64)) other lt (λ i below apart. bit_at_clear_other w64 word (page % 64) (omega arith) i below apart ∙ ap (λ w. bit_at w i) read)

-- a change at a page under the count leaves none past it
pub none_past : (pages : ℕ) (old new : List ℕ) (page : ℕ) → page < pages → NoneFrom pages old → ((other : ℕ) → other ≢ page → bit_of new other ≡ bit_of old other) → NoneFrom pages new
none_past pages old new page below none others other past = let apart : other ≢ page = omega arith in others other apart ∙ none other past

pub none_united : (pages : ℕ) (own others new : List ℕ) → NoneFrom pages own → NoneFrom pages others → ((page : ℕ) → bit_of new page ≡ max (bit_of own page) (bit_of others page)) → NoneFrom pages new
none_united pages own others new mine theirs each page past = each page ∙ ap₂ max (mine page past) (theirs page past)

-- words joined bit by bit
pub bit_of-or : (own others new : List ℕ) → ((j : ℕ) → get_or new j 0 ≡ bit_or (get_or own j 0) (get_or others j 0)) → (page : ℕ) → bit_of new page ≡ max (bit_of own page) (bit_of others page)
bit_of-or own others new each page = ap (λ w. bit_at w (page % 64)) (each (page / 64)) ∙ bit_at_or (get_or own (page / 64) 0) (get_or others (page / 64) 0) (page % 64)

-- full words, and then one that isn't
module _ (words : List ℕ) (upto : ℕ) (full : (j : ℕ) → j < upto → get_or words j 0 ≡ 18446744073709551615) (fits : get_or words upto 0 < 2 ^ 64) (ne : get_or words upto 0 ≢ 18446744073709551615) where
  abbrev pub ones : ℕ
  ones = trailing_ones w64 (get_or words upto 0)

  told : (ones < 64) × (bit_at (get_or words upto 0) ones ≡ 0) × ((i : ℕ) → i < ones → bit_at (get_or words upto 0) i ≡ 1)
  told = bit_at-trailing_ones w64 (get_or words upto 0) (omega arith)

  pub few_ones : ones < 64
  few_ones = told.0

  pub zero_at : bit_of words (64 * upto + ones) ≡ 0
  zero_at = bit_of-at words upto ones told.0 ∙ told.1

  pub ones_below : (page : ℕ) → page < 64 * upto + ones → bit_of words page ≡ 1
  ones_below page lt =
      elim (cases_lt page (64 * upto)) [
        | inl before ↦ bit_of-full words upto full page before
        | inr from ↦ (
            let few : ones < 64 = told.0 in
            let i : ℕ = page - 64 * upto in
            let back : page ≡ 64 * upto + i = omega arith in
            ap (bit_of words) back ∙ bit_of-at words upto i (omega arith) ∙ told.2 i (omega arith))
      ]
