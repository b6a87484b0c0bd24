-- How the plan of a checkpoint is made.
use Rattle.std.specs.Prelude.{◌≡◌, ℕ, ◌+◌, Bool, List, Option, None, Some}
use Rattle.std.specs.Option.{unwrap_or}
use Rattle.rr_disk.specs.Disk.{DiskState}
use Rattle.rr_pages.specs.declared.chain.FreshPage.{FreshPage}
use Rattle.rr_pages.specs.declared.free_pages.FreePages.{FreePages}
use Rattle.rr_pages.specs.declared.root.Root.{Root}
use Rattle.rr_pages.specs.declared.root.TheConstants.{NEWEST_VERSION}
use Rattle.rr_pages.specs.FreePages.{present_of, coming_of}
use Rattle.rr_pages.specs.Sets.{Has}
use Rattle.rr_images.specs.Codec.{Codec}
use Rattle.rr_images.specs.Holding.{Holding, heads_of, texts_of, pages_of, reached_of, AreSome}
use Rattle.rr_images.specs.Layout.{Layout}
use Rattle.rr_images.specs.Plans.{Draft, chains_of, kept_of, fresh_chains, AreLaid}
use Rattle.rr_images.specs.Progress.{IsPlan}
use Rattle.rr_checkpoint.specs.declared.checkpoint.Plan.{Plan}
use Rattle.rr_checkpoint.specs.declared.writer.Writer.{Writer}
use Rattle.rr_checkpoint.specs.Checkpoint.{plan_of}
use Rattle.rr_checkpoint.specs.Growing.{IsPacked}
use Rattle.rr_checkpoint.specs.Pages.{pages_with}
use Rattle.rr_checkpoint.specs.Writer.{Carries, place_of, taken_of}
use Rattle.rr_pages.specs.Journal.Layout.{other_half}

-- The plan is one for this layout, its root's number comes next after that of the layout's root, the pages that were
-- taken are those that its root will reach, and no page up to any that it writes is free.
pub record MayBegin (codec : Codec) (layout : Layout codec) (free : FreePages) (plan : Plan) : Type 0 where
  pub holding : Holding
  pub is_plan : IsPlan codec layout (plan_of plan holding)
  pub next : plan.root.number ≡ layout.root.number + 1
  pub coming : Has (coming_of free) (reached_of holding)
  pub packed : IsPacked free plan

-- where an opening found the checkpoint begun, its first step writes a page of the plan, and else none
abbrev pub MayStart : (codec : Codec) → Layout codec → FreePages → Option ℕ → Plan → Type 0
MayStart codec layout free None plan = Unit {0}
MayStart codec layout free (Some first) plan = MayBegin codec layout free plan

-- The chains of the coming root besides its directory: some are kept where the present root holds them, and the others
-- were laid into free pages, one after another.
pub record AreDrafted {codec : Codec} (layout : Layout codec) (free : FreePages) (fresh : List FreshPage)
    (drafts : List Draft) : Type 0 where
  pub kept : AreSome (kept_of drafts) layout.holding.chains
  pub marks : List Bool  -- of the pages that are kept
  pub kept_pages : Has marks (pages_of (kept_of drafts))
  pub laid : AreLaid (present_of free) marks (coming_of free) fresh (fresh_chains drafts)

-- This directory, of this version, names those chains, and with them spells the world before the first record of the
-- other half.
pub record IsDirectory (codec : Codec) (layout : Layout codec) (version : ℕ) (drafts : List Draft) (text : List ℕ) : Type 0 where
  pub named : codec.Heads version text (heads_of (chains_of drafts))
  pub spells : codec.Spells version text (texts_of (chains_of drafts)) layout.middle

-- whatever the writer carries, it carries on, and with the same layout
abbrev pub CarriesOn : {C : Type 0} → Codec → Writer C → Writer C → Type 0
CarriesOn codec old new =
    (state : DiskState) (world : codec.World) → (carries : Carries codec old state world)
    → (then : Carries codec new state world) × (then.layout ≡ carries.layout)

-- the root that a checkpoint writes: the next number, the other half, the first record there, and the newest version
abbrev pub coming_root_of : {C : Type 0} → Writer C → ℕ → List FreshPage → Root
coming_root_of writer head fresh =
    record {
      number = (taken_of writer).root.number + 1;
      directory = head;
      half = other_half (taken_of writer).root.half;
      first = unwrap_or (place_of writer).begun (place_of writer).number;
      pages = pages_with (taken_of writer).root.pages fresh;
      version = NEWEST_VERSION;
    }
