-- What laying a chain into free pages gives.
use Rattle.std.specs.Prelude.{◌≡◌, ℕ, Bool, List, ◌++◌, length, map}
use Rattle.rr_pages.specs.declared.page.TheConstants.{MOST_PAGES}
use Rattle.rr_pages.specs.declared.chain.FreshPage.{FreshPage}
use Rattle.rr_pages.specs.Laying.{head_of, laid, joined, FitPages, FillPages}
use Rattle.rr_pages.specs.Sets.{TakesFree}

-- a page and its bytes
abbrev pub fresh_of : FreshPage → ℕ × List ℕ
fresh_of fresh = (fresh.page, fresh.bytes.items)

-- a chain of these bytes was laid into pages that were free, behind the fresh pages from before
pub record IsLaid (present coming after : List Bool) (bytes : List ℕ) (old new : List FreshPage) (head : ℕ) : Type 0 where
  pub pages : List ℕ
  pub pieces : List (List ℕ)
  pub whole : joined pieces ≡ bytes
  pub fit : FitPages pages pieces
  pub fill : FillPages pieces
  pub first : head ≡ head_of pages
  pub fresh : map fresh_of new ≡ map fresh_of old ++ laid pages pieces
  pub taken : TakesFree present coming pages after
  pub marks : length coming ≡ MOST_PAGES
