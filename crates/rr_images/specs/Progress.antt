-- What a store's disk is between two calls, a checkpoint under way included.
use Rattle.std.specs.Prelude.{◌≡◌, ℕ, ◌*◌, ◌≤◌, List, [], ◌∷◌, ◌++◌, length}
use Rattle.rr_pages.specs.declared.page.TheConstants.{PAGE_BYTES, FIRST_DATA}
use Rattle.rr_disk.specs.Disk.{DiskState}
use Rattle.rr_disk.specs.Moments.{EachImage}
use Rattle.rr_pages.specs.declared.root.Root.{Root}
use Rattle.rr_pages.specs.Pages.{IsIn}
use Rattle.rr_pages.specs.Laying.{AllStand}
use Rattle.rr_pages.specs.Roots.{Shut, IsSound}
use Rattle.rr_images.specs.Codec.{Codec}
use Rattle.rr_images.specs.Holding.{Holding, reached_of, AllHeld}
use Rattle.rr_images.specs.Layout.{Spelled, Layout, FarHalf, Unused, Old, Begun, KeepsAt}
use Rattle.rr_images.specs.Steps.{ComesNext, IsPrepared}

-- whole data pages, none of them reached, no two the same
abbrev pub AreSpare : List ℕ → List (ℕ × List ℕ) → Type 0
AreSpare reached [] = Unit {0}
AreSpare reached (fresh ∷ more) =
    (FIRST_DATA ≤ fresh.0) × (length fresh.1 ≡ PAGE_BYTES) × (IsIn fresh.0 reached → ⊥) × AreSpare (fresh.0 ∷ reached) more

-- what a checkpoint has in memory from its first step on: the next root, what it will hold, and the fresh pages with
-- their bytes
pub record Plan : Type 0 where
  pub root : Root
  pub holding : Holding
  pub fresh : List (ℕ × List ℕ)

-- The plan is one for this layout: wherever its pages stand beside the chains that the present root holds, what the
-- next root holds spells the world before the first far record.
pub record IsPlan (codec : Codec) (layout : Layout codec) (plan : Plan) : Type 0 where
  pub next : ComesNext layout plan.root
  pub sound : (file : List ℕ) → PAGE_BYTES * plan.root.pages ≤ length file → IsSound file plan.root
  pub spare : AreSpare (reached_of layout.holding) plan.fresh
  pub long : (file : List ℕ) → PAGE_BYTES * layout.root.pages ≤ length file → AllStand file plan.fresh
      → PAGE_BYTES * plan.root.pages ≤ length file
  pub spells : (file : List ℕ) → AllHeld file layout.holding.chains → AllStand file plan.fresh
      → Spelled codec file plan.root plan.holding layout.middle

-- a checkpoint is begun, or it isn't and records go on in the root's half
abbrev pub IsBegun : FarHalf → Type 0
IsBegun far = (lines : List (List ℕ)) × (far ≡ Begun lines)

abbrev pub IsNotBegun : FarHalf → Type 0
IsNotBegun Unused = Unit {0}
IsNotBegun Old = Unit {0}
IsNotBegun (Begun lines) = ⊥

-- How far a checkpoint has come.
pub data Progress : Type 0 where
  Resting : Progress  -- none runs, or an opening found it begun
  Writing : Plan → List (ℕ × List ℕ) → List (ℕ × List ℕ) → Progress  -- fresh pages written, and those to be written
  Shutting : Plan → Progress  -- the stale root's gate is shut
  Filling : Plan → Progress  -- the next root stands behind it

-- What is known of that besides the layout. Of pages that wait for their sync only a read tells.
abbrev pub HasCome : (codec : Codec) → Layout codec → DiskState → Progress → Type 0
HasCome codec layout state Resting = Unit {0}
HasCome codec layout state (Writing plan done todo) =
    IsPlan codec layout plan × IsBegun layout.far × (plan.fresh ≡ done ++ todo) × AllStand state.content done
HasCome codec layout state (Shutting plan) =
    IsPlan codec layout plan × IsBegun layout.far × (layout.stale ≡ Shut)
    × EachImage state (λ image. AllStand image plan.fresh)
HasCome codec layout state (Filling plan) =
    IsPlan codec layout plan × IsBegun layout.far × (layout.stale ≡ Shut)
    × EachImage state (IsPrepared codec layout plan.root plan.holding)

-- Between two calls: each file that a stop may leave has the layout, and the checkpoint has come so far.
pub record IsBetween (codec : Codec) (layout : Layout codec) (state : DiskState) (progress : Progress)
    (world : codec.World) : Type 0 where
  pub each : EachImage state (λ image. KeepsAt codec layout image world)
  pub come : HasCome codec layout state progress
