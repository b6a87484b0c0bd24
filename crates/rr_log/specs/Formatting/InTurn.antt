-- Pages of a new file, which are laid without a gap.
use Rattle.std.specs.Prelude.{◌≡◌, ℕ, zero, suc, ◌+◌, Bool, List, [], ◌∷◌, length}
use Rattle.rr_pages.specs.Sets.{IsEmpty, Has}
use Rattle.rr_pages.specs.declared.page.TheConstants.{FIRST_DATA, MOST_PAGES}

-- so many pages from one on
abbrev pub pages_from : ℕ → ℕ → List ℕ
pages_from page zero = []
pages_from page (suc count) = page ∷ pages_from (page + 1) count

-- no root reaches a page yet, and the coming one will reach so many, from the first data page on
pub record AreInTurn (present coming : List Bool) (count : ℕ) : Type 0 where
  pub no_root : IsEmpty present
  pub taken : Has coming (pages_from FIRST_DATA count)
  pub marks : length coming ≡ MOST_PAGES
