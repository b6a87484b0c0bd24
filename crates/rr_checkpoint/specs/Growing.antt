-- When the file of a store grows: not while a page under its end is free.
use Rattle.std.specs.Prelude.{◌≡◌, ℕ, ◌*◌, ◌<◌, ◌≤◌, Bool, List, All}
use Rattle.rr_pages.specs.declared.free_pages.FreePages.{FreePages}
use Rattle.rr_pages.specs.declared.page.TheConstants.{PAGE_BYTES}
use Rattle.rr_pages.specs.FreePages.{present_of, coming_of}
use Rattle.rr_pages.specs.Sets.{IsEmpty, IsFree}
use Rattle.rr_checkpoint.specs.declared.checkpoint.Plan.{Plan}
use Rattle.rr_checkpoint.specs.declared.writer.Tick.{Tick}
use Rattle.rr_checkpoint.specs.declared.writer.Tick.TheVariants.{Idle, More, Done}
use Rattle.rr_checkpoint.specs.Plan.Laying.{fresh_pages}

-- no page up to this one is free
abbrev pub NoneFreeUpTo : List Bool → List Bool → ℕ → Type 0
NoneFreeUpTo present coming page = (other : ℕ) → other ≤ page → IsFree present coming other → ⊥

-- no page up to any that a plan writes is free
abbrev pub IsPacked : FreePages → Plan → Type 0
IsPacked free plan = All (NoneFreeUpTo (present_of free) (coming_of free)) (fresh_pages plan)

-- no page that begins under the end of a file of so many bytes is free
abbrev pub NoneFreeUnder : List Bool → List Bool → ℕ → Type 0
NoneFreeUnder present coming len = (page : ℕ) → PAGE_BYTES * page < len → IsFree present coming page → ⊥

-- a file that has become longer has no free page under its end
abbrev pub GrowsWhereFull : List Bool → List Bool → ℕ → ℕ → Type 0
GrowsWhereFull present coming old new = old < new → NoneFreeUnder present coming new

-- the coming root is the present one now, and no page is taken for another
pub record AreReclaimed (old new : FreePages) : Type 0 where
  pub present : present_of new ≡ coming_of old
  pub coming : IsEmpty (coming_of new)

-- which pages are taken behind a tick: the same before the last one of a checkpoint, and behind that those of the root
-- that was coming
abbrev pub FreesAt : Tick → FreePages → FreePages → Type 0
FreesAt Idle old new = new ≡ old
FreesAt More old new = new ≡ old
FreesAt Done old new = AreReclaimed old new
