-- The page count of a root.
use Rattle.std.specs.Prelude.{ℕ, ◌+◌, max, List, [], ◌∷◌}
use Rattle.rr_pages.specs.declared.chain.FreshPage.{FreshPage}

-- how many pages a file has that ends with the last of these, or so many
abbrev pub pages_with : ℕ → List FreshPage → ℕ
pages_with count [] = count
pages_with count (fresh ∷ more) = pages_with (max count (fresh.page + 1)) more
