-- Chains of data pages.
use Rattle.std.specs.Prelude.{◌≡◌, ◌≢◌, ℕ, ◌+◌, ◌*◌, ◌≤◌, List, [], ◌∷◌, ◌++◌, length}
use Rattle.rr_pages.specs.declared.page.TheConstants.{PAGE_BYTES, LINK_BYTES, MOST_USED}
use Rattle.rr_pages.specs.Pages.{StandsAt, number_in}

-- the page that follows in the chain, 0 behind its last page
abbrev pub next_of : List ℕ → ℕ → ℕ
next_of file page = number_in file page 0 8

-- how many bytes of a page belong to the chain
abbrev pub used_of : List ℕ → ℕ → ℕ
used_of file page = number_in file page 8 2

-- a page of a chain: the next page, and its own bytes
pub record IsPage (file : List ℕ) (page next : ℕ) (bytes : List ℕ) : Type 0 where
  pub next_page : next_of file page ≡ next
  pub used : used_of file page ≡ length bytes
  pub fits : length bytes ≤ MOST_USED
  pub standing : StandsAt file (PAGE_BYTES * page + LINK_BYTES) bytes

-- pages that follow one another up to the end of a chain, and their bytes
abbrev pub Links : List ℕ → ℕ → List ℕ → List ℕ → Type 0
Links file next [] bytes = (next ≡ 0) × (bytes ≡ [])
Links file next (page ∷ pages) bytes =
    (next ≡ page) × (then : ℕ) × (own : List ℕ) × (rest : List ℕ) × (bytes ≡ own ++ rest) × IsPage file page then own × Links file then pages rest

-- a chain, by its first page: its pages, of which it has at least one, and its bytes
abbrev pub Chain : List ℕ → ℕ → List ℕ → List ℕ → Type 0
Chain file head pages bytes = (head ≢ 0) × Links file head pages bytes

-- chains, one for each head and length
abbrev pub Chains : List ℕ → List (ℕ × ℕ) → List ℕ → List (List ℕ) → Type 0
Chains file [] pages texts = (pages ≡ []) × (texts ≡ [])
Chains file (head ∷ heads) pages texts =
    (own : List ℕ) × (more : List ℕ) × (text : List ℕ) × (others : List (List ℕ))
    × (pages ≡ own ++ more) × (texts ≡ text ∷ others) × Chain file head.0 own text × (length text ≡ head.1) × Chains file heads more others
