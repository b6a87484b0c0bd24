-- On which bytes of a file it depends what the file keeps.
use Rattle.std.specs.Prelude.{◌≡◌, ℕ, ◌+◌, ◌*◌, ◌<◌, ◌≤◌, not, List, length, slice_index}
use Rattle.rr_pages.specs.declared.journal.layout.TheConstants.{HALF_PAGES}
use Rattle.rr_pages.specs.declared.root.TheConstants.{ROOT_BYTES}
use Rattle.rr_pages.specs.declared.page.TheConstants.{PAGE_BYTES}
use Rattle.rr_pages.specs.declared.journal.layout.HalfIndex.{HalfIndex}
use Rattle.rr_pages.specs.Journal.Layout.{gate_place, other_half}
use Rattle.rr_pages.specs.Pages.{IsIn}
use Rattle.rr_pages.specs.Roots.{root_gate, Stale, IsStale}
use Rattle.rr_images.specs.Codec.{Codec}
use Rattle.rr_images.specs.Holding.{reached_of}
use Rattle.rr_images.specs.Layout.{Layout}

-- two files have the same bytes from one place up to another
abbrev pub Same : List ℕ → List ℕ → ℕ → ℕ → Type 0
Same old new low high = (i : ℕ) → low ≤ i → i < high → slice_index new i ≡ slice_index old i

abbrev pub SamePages : List ℕ → List ℕ → List ℕ → Type 0
SamePages old new pages = (page : ℕ) → IsIn page pages → Same old new (PAGE_BYTES * page) (PAGE_BYTES * page + PAGE_BYTES)

abbrev pub SameHalf : List ℕ → List ℕ → HalfIndex → Type 0
SameHalf old new half = Same old new (gate_place half 0) (gate_place half HALF_PAGES)

-- The new file is no shorter and has the old one's bytes where a layout looks at them: the bytes of the root that is
-- taken, its gate included, both halves, and the pages that the root reaches. Of the other root it has this.
pub record IsReadTheSame {codec : Codec} (layout : Layout codec) (other : Stale) (old new : List ℕ) : Type 0 where
  pub no_shorter : length old ≤ length new
  pub root : Same old new (root_gate layout.side) (root_gate layout.side + (1 + ROOT_BYTES))
  pub stale_root : IsStale new (not layout.side) layout.root.number other
  pub near : SameHalf old new layout.root.half
  pub far : SameHalf old new (other_half layout.root.half)
  pub pages : SamePages old new (reached_of layout.holding)
