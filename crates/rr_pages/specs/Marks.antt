-- How words of 64 bits have marks, one a page.
use Rattle.std.specs.Prelude.{◌≡◌, ℕ, ◌+◌, ◌/◌, ◌%◌, ◌≤◌, ◌==◌, Bool, List, length, map, slice_index}
use Rattle.std.specs.Int.{bit_at}
use Rattle.std.specs.List.{range_with_len}

-- the bit of this page
abbrev pub bit_of : List ℕ → ℕ → ℕ
bit_of words page = bit_at (slice_index words (page / 64)) (page % 64)

-- no page from this one on has its bit set
abbrev pub NoneFrom : ℕ → List ℕ → Type 0
NoneFrom pages words = (page : ℕ) → pages ≤ page → bit_of words page ≡ 0

-- as many words as so many pages need, with no bit set past the last page
pub record AreWordsFor (pages : ℕ) (words : List ℕ) : Type 0 where
  pub whole : length words ≡ (pages + 63) / 64
  pub past : NoneFrom pages words

-- the marks of so many pages
unfoldable pub marks_in : ℕ → List ℕ → List Bool
marks_in pages words = map (λ page. bit_of words page == 1) (range_with_len 0 pages)
