-- A new file on a device.
use Rattle.std.specs.Prelude.{◌≡◌, ◌⊎◌, ℕ, ◌+◌, ◌*◌, ◌<◌, ◌≤◌, false, List, length, map, slice_index}
use Rattle.rr_disk.specs.Disk.{DiskState}
use Rattle.rr_disk.specs.Moments.{EachImage}
use Rattle.rr_images.specs.Codec.{Codec}
use Rattle.rr_images.specs.Holding.{Holding}
use Rattle.rr_images.specs.Layout.{KeepsAt, formatted}
use Rattle.rr_pages.specs.Choosing.{IsNoStore}
use Rattle.rr_pages.specs.Laying.{AllStand}
use Rattle.rr_pages.specs.Pages.{StandsAt}
use Rattle.rr_pages.specs.Roots.{IsRootOpen, root_bytes}
use Rattle.rr_pages.specs.Writing.{fresh_of}
use Rattle.rr_pages.specs.declared.chain.FreshPage.{FreshPage}
use Rattle.rr_pages.specs.declared.page.TheConstants.{PAGE_BYTES, FIRST_DATA}
use Rattle.rr_pages.specs.declared.root.Root.{Root}
use Rattle.rr_pages.specs.declared.root.TheConstants.{ROOT_BYTES}
use Rattle.rr_reading.specs.Worlds.Spelling.{worlds}
use Rattle.rr_reading.specs.Worlds.World.{World, WorldRules}
use Rattle.rr_log.specs.Formatting.NewFile.{IsFirstRoot, IsNewFile}

-- The bytes of a new file: on page 0 an open gate and the root behind it, zeros up to the first data page, and then the
-- fresh pages, up to the last page that the root counts.
pub record HasNewBytes (root : Root) (fresh : List FreshPage) (file : List ℕ) : Type 0 where
  pub open_gate : IsRootOpen file false
  pub root_there : StandsAt file 1 (root_bytes root)
  pub zeros : (i : ℕ) → ROOT_BYTES + 1 ≤ i → i < PAGE_BYTES * FIRST_DATA → slice_index file i ≡ 0
  pub pages : AllStand file (map fresh_of fresh)
  pub ends : length file ≡ PAGE_BYTES * root.pages  -- to the last page

-- The new file stands whole, and keeps its world, without a record and with no checkpoint begun.
pub record IsFormatted (rules : WorldRules) (root : Root) (fresh : List FreshPage)
    (holding : Holding) (world : World) (file : List ℕ) : Type 0 where
  pub bytes : HasNewBytes root fresh file
  pub kept : KeepsAt (worlds rules) (formatted false root holding world) file world

-- A file that a stop may leave while a new one is written: no store yet, or the whole new file.
abbrev pub IsNoneOrFormatted : WorldRules → Root → List FreshPage → Holding → World → List ℕ
    → Type 0
IsNoneOrFormatted rules root fresh holding world file =
    IsNoStore file ⊎ IsFormatted rules root fresh holding world file

-- The file is a new one of this version that keeps this world: on page 0 it has the first root, whose number is 1, and
-- the first record will have number 1 and go into the first half. No record stands there yet, no checkpoint is begun,
-- and the file ends with the last page that the root counts.
pub record KeepsNew (codec : Codec) (version : ℕ) (world : codec.World) (file : List ℕ) : Type 0 where
  pub root : Root
  pub first : IsFirstRoot root
  pub version_is : root.version ≡ version
  pub holding : Holding
  pub kept : KeepsAt codec (formatted false root holding world) file world
  pub ends : length file ≡ PAGE_BYTES * root.pages

-- the same by its world alone: no store yet, or the new one that keeps it
abbrev pub KeepsNoneOr : (codec : Codec) → ℕ → codec.World → List ℕ → Type 0
KeepsNoneOr codec version world file = IsNoStore file ⊎ KeepsNew codec version world file

-- nothing is read of the disk, and whatever a stop leaves of it is no store
pub record IsUnused (state : DiskState) : Type 0 where
  pub empty : length state.content ≡ 0
  pub none : EachImage state IsNoStore

-- each new file may stand on a device
abbrev pub NewFilesStand : WorldRules → Type 0
NewFilesStand rules =
    (root : Root) (fresh : List FreshPage) (world : World) → (is : IsNewFile rules root fresh world)
    → (file : List ℕ) × IsFormatted rules root fresh is.holding world file
