-- Bytes of a file at their places, and numbers among them.
use Rattle.std.proofs.Common.{◌≡◌, ℕ, zero, suc, ◌+◌, ◌<◌, List, length, drop, slice_index, refl, sym, ap, ◌∙◌, arith, get_or-take, get_or-drop}
use Rattle.byteorder.specs.Endian.{big_from, big_number}
use Rattle.rr_disk.specs.Disk.{IsAt}
use Rattle.rr_pages.specs.declared.journal.layout.HalfIndex.{HalfIndex}
use Rattle.rr_pages.specs.Journal.Layout.{gate_place, number_at, length_at, StandsAt}

-- the byte at one place, by another word for the place
pub at_same : (file : List ℕ) (i j : ℕ) → i ≡ j → slice_index file i ≡ slice_index file j
at_same file i j same = ap (λ (k : ℕ). slice_index file k) same

-- a number reads the same where its bytes are the same
pub big_from-same : (i j n : ℕ) (xs ys : List ℕ) → ((k : ℕ) → k < n → slice_index xs (i + k) ≡ slice_index ys (j + k)) → big_from i n xs ≡ big_from j n ys
big_from-same i j zero xs ys same = refl
big_from-same i j (suc n) xs ys same =
    let head : slice_index xs i ≡ slice_index ys j = at_same xs i (i + 0) (omega arith) ∙ (same 0 (omega arith) ∙ at_same ys (j + 0) j (omega arith)) in
    let tail : big_from (suc i) n xs ≡ big_from (suc j) n ys =
    big_from-same (suc i) (suc j) n xs ys (λ k h. at_same xs (suc i + k) (i + suc k) (omega arith) ∙ (same (suc k) (omega arith) ∙ at_same ys (j + suc k) (suc j + k) (omega arith))) in
    cc

-- bytes that were read stand in the file
pub at_index : (file : List ℕ) (at : ℕ) (bytes : List ℕ) → IsAt file at bytes → (i : ℕ) → i < length bytes → slice_index bytes i ≡ slice_index file (at + i)
at_index file at bytes is i h =
    ap (λ (xs : List ℕ). slice_index xs i) (sym is.same) ∙ (get_or-take (length bytes) (drop at file) i 0 h ∙ get_or-drop at file i 0)

pub stands : (file : List ℕ) (at : ℕ) (bytes : List ℕ) → IsAt file at bytes → StandsAt file at bytes
stands file at bytes is i h = sym (at_index file at bytes is i h)

-- the header of a slot, as it was read
module _ (file : List ℕ) (half : HalfIndex) (slot : ℕ) (header : List ℕ) (is : IsAt file (gate_place half slot) header) (whole : length header ≡ 13) where
  pub gate_read : slice_index header 0 ≡ slice_index file (gate_place half slot)
  gate_read = at_index file (gate_place half slot) header is 0 (omega arith) ∙ at_same file (gate_place half slot + 0) (gate_place half slot) (omega arith)

  pub number_read : big_number 8 (drop 1 header) ≡ number_at file half slot
  unfolding number_at
  number_read =
      big_from-same 0 (gate_place half slot + 1) 8 (drop 1 header) file
      (λ k h. get_or-drop 1 header (0 + k) 0 ∙ (at_same header (1 + (0 + k)) (1 + k) (omega arith) ∙ (at_index file (gate_place half slot) header is (1 + k) (omega arith)
      ∙ at_same file (gate_place half slot + (1 + k)) (gate_place half slot + 1 + k) (omega arith))))

  pub length_read : big_number 4 (drop 9 header) ≡ length_at file half slot
  unfolding length_at
  length_read =
      big_from-same 0 (gate_place half slot + 9) 4 (drop 9 header) file
      (λ k h. get_or-drop 9 header (0 + k) 0 ∙ (at_same header (9 + (0 + k)) (9 + k) (omega arith) ∙ (at_index file (gate_place half slot) header is (9 + k) (omega arith)
      ∙ at_same file (gate_place half slot + (9 + k)) (gate_place half slot + 9 + k) (omega arith))))
