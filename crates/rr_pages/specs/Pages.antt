-- Pages of a file, of 4,096 bytes each, and numbers in them. Numbers are big-endian, and a byte past the end of a file
-- counts as 0.
use Rattle.std.specs.Prelude.{◌≡◌, ◌⊎◌, ℕ, ◌+◌, ◌*◌, ◌<◌, ◌≤◌, List, [], ◌∷◌, length, slice_index}
use Rattle.byteorder.specs.Endian.{big_from}
use Rattle.rr_pages.specs.declared.page.TheConstants.{PAGE_BYTES, FIRST_DATA}

-- from this place on stand these bytes
abbrev pub StandsAt : List ℕ → ℕ → List ℕ → Type 0
StandsAt file place bytes = (i : ℕ) → i < length bytes → slice_index file (place + i) ≡ slice_index bytes i

-- the number in so many bytes of a page, from its byte `at` on
unfoldable pub number_in : List ℕ → ℕ → ℕ → ℕ → ℕ
number_in file page at count = big_from (PAGE_BYTES * page + at) count file

-- a page of data: behind the roots and the journal, and under the file's page count
abbrev pub IsData : ℕ → ℕ → Type 0
IsData count page = (FIRST_DATA ≤ page) × (page < count)

abbrev pub IsIn : ℕ → List ℕ → Type 0
IsIn page [] = ⊥
IsIn page (p ∷ pages) = (page ≡ p) ⊎ IsIn page pages

-- no page stands here twice
abbrev pub AllApart : List ℕ → Type 0
AllApart [] = Unit {0}
AllApart (p ∷ pages) = (IsIn p pages → ⊥) × AllApart pages

abbrev pub AreData : ℕ → List ℕ → Type 0
AreData count [] = Unit {0}
AreData count (p ∷ pages) = (FIRST_DATA ≤ p) × (p < count) × AreData count pages
