-- How chains are laid into whole pages.
use Rattle.std.specs.Prelude.{◌≡◌, ℕ, ◌+◌, ◌-◌, ◌*◌, ◌/◌, ◌≤◌, ◌<◌, max, List, [], ◌∷◌, ◌++◌, length, replicate}
use Rattle.byteorder.specs.Endian.{big_bytes}
use Rattle.rr_pages.specs.declared.page.TheConstants.{PAGE_BYTES, MOST_USED, MOST_PAGES}
use Rattle.rr_pages.specs.Pages.{StandsAt}

-- a page of a chain as it is written: the next page, how many bytes it has, these bytes, and zeros
unfoldable pub page_spelling : ℕ → List ℕ → List ℕ
page_spelling next bytes = big_bytes 8 next ++ (big_bytes 2 (length bytes) ++ (bytes ++ replicate (MOST_USED - length bytes) 0))

-- the page that comes first, 0 without one
abbrev pub head_of : List ℕ → ℕ
head_of [] = 0
head_of (page ∷ pages) = page

-- pages with a piece each, every one leading to the next
abbrev pub laid : List ℕ → List (List ℕ) → List (ℕ × List ℕ)
laid [] pieces = []
laid (page ∷ pages) [] = []
laid (page ∷ pages) (piece ∷ pieces) = (page, page_spelling (head_of pages) piece) ∷ laid pages pieces

abbrev pub joined : List (List ℕ) → List ℕ
joined [] = []
joined (piece ∷ pieces) = piece ++ joined pieces

abbrev pub FitEach : List ℕ → List (List ℕ) → Type 0
FitEach [] [] = Unit {0}
FitEach [] (piece ∷ pieces) = ⊥
FitEach (page ∷ pages) [] = ⊥
FitEach (page ∷ pages) (piece ∷ pieces) = (0 < page) × (page < MOST_PAGES) × (length piece ≤ MOST_USED) × FitEach pages pieces

-- pages and the pieces that go into them, one for each, and at least one
pub record FitPages (pages : List ℕ) (pieces : List (List ℕ)) : Type 0 where
  pub some : 0 < length pages
  pub each : FitEach pages pieces

-- every piece but the last one fills its page
abbrev pub FillPages : List (List ℕ) → Type 0
FillPages [] = Unit {0}
FillPages (piece ∷ []) = Unit {0}
FillPages (piece ∷ next ∷ pieces) = (length piece ≡ MOST_USED) × FillPages (next ∷ pieces)

-- how many pages so many bytes take: an empty chain takes one too
abbrev pub pages_for : ℕ → ℕ
pages_for count = max 1 ((count + (MOST_USED - 1)) / MOST_USED)

-- a page and its bytes stand in a file
abbrev pub PageStands : List ℕ → ℕ × List ℕ → Type 0
PageStands file fresh = (PAGE_BYTES * fresh.0 + PAGE_BYTES ≤ length file) × StandsAt file (PAGE_BYTES * fresh.0) fresh.1

abbrev pub AllStand : List ℕ → List (ℕ × List ℕ) → Type 0
AllStand file [] = Unit {0}
AllStand file (fresh ∷ more) = PageStands file fresh × AllStand file more
