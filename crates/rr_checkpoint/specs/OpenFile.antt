-- What is known of an open file between two calls.
use Rattle.std.specs.Prelude.{◌≡◌, ℕ, ◌+◌, Option, None, Some, length}
use Rattle.rr_disk.specs.Disk.{DiskState}
use Rattle.rr_pages.specs.declared.choosing.Taken.{Taken}
use Rattle.rr_pages.specs.declared.free_pages.FreePages.{FreePages}
use Rattle.rr_pages.specs.FreePages.{present_of, coming_of}
use Rattle.rr_pages.specs.Sets.{Has}
use Rattle.rr_images.specs.Codec.{Codec}
use Rattle.rr_images.specs.Holding.{Holding, reached_of}
use Rattle.rr_images.specs.Layout.{Layout, FarHalf}
use Rattle.rr_images.specs.Progress.{IsBegun, IsNotBegun, IsBetween}
use Rattle.rr_images.specs.Steps.{GoesOnAt}
use Rattle.rr_checkpoint.specs.declared.checkpoint.Checkpoint.{Checkpoint}
use Rattle.rr_checkpoint.specs.declared.open_file.OpenFile.{OpenFile}
use Rattle.rr_checkpoint.specs.declared.place.Place.{Place}
use Rattle.rr_checkpoint.specs.Checkpoint.{progress_of}
use Rattle.rr_checkpoint.specs.Growing.{IsPacked}

-- records go to the half that the root doesn't name, from the record of this number on, or they go to the root's half
abbrev pub IsBegunAt : Option ℕ → ℕ → FarHalf → Type 0
IsBegunAt None number far = IsNotBegun far
IsBegunAt (Some first) number far = IsBegun far × (first ≡ number)

-- What is in memory tells the layout: its root, where its next record goes, and which pages its root reaches.
pub record Tells {codec : Codec} (taken : Taken) (place : Place) (free : FreePages) (layout : Layout codec) : Type 0 where
  pub side : layout.side ≡ taken.side
  pub root : layout.root ≡ taken.root
  pub begun : IsBegunAt place.begun (layout.root.first + length layout.near) layout.far
  pub goes_on : GoesOnAt layout place.half place.number
  pub reached : Has (present_of free) (reached_of layout.holding)

-- of a checkpoint under way: the pages that were taken for it are those that its root will reach, its root's number
-- comes next after this one, and no page up to any that it writes is free
abbrev pub HasComing : FreePages → ℕ → Option Checkpoint → Holding → Type 0
HasComing free number None holding = Unit {0}
HasComing free number (Some checkpoint) holding =
    Has (coming_of free) (reached_of holding) × (checkpoint.plan.root.number ≡ number + 1) × IsPacked free checkpoint.plan

-- What is known of an open file carries this world: all files that a stop may leave now have one layout and keep the
-- world, what is in memory tells the layout, and the checkpoint has come so far.
pub record CarriesWith {C : Type 0} (codec : Codec) (file : OpenFile C) (checkpoint : Option Checkpoint)
    (state : DiskState) (world : codec.World) : Type 0 where
  pub layout : Layout codec
  pub holding : Holding  -- what the coming root will hold
  pub tells : Tells file.taken file.place file.free layout
  pub between : IsBetween codec layout state (progress_of checkpoint holding) world
  pub coming : HasComing file.free file.taken.root.number checkpoint holding
