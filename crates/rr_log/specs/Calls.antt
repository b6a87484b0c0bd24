-- What the calls on a log do, and when they are refused.
use Rattle.std.specs.Prelude.{◌≡◌, ◌⊎◌, ℕ, ◌+◌, ◌<◌, Bool, List, [], Option, None, Some, Result, Ok, Err}
use Rattle.rr_checkpoint.specs.declared.place.Place.{Place}
use Rattle.rr_checkpoint.specs.declared.writer.Tick.{Tick}
use Rattle.rr_checkpoint.specs.declared.writer.Tick.TheVariants.{Idle, More, Done}
use Rattle.rr_checkpoint.specs.Writer as file
use Rattle.rr_images.specs.Codec.{Codec}
use Rattle.rr_images.specs.Layout.{Layout, Stands, Begun, far_lines}
use Rattle.rr_images.specs.Steps.{with_far, with_line}
use Rattle.rr_log.specs.declared.fault.Fault.{Fault}
use Rattle.rr_log.specs.declared.fault.Fault.TheVariants as F
use Rattle.rr_log.specs.declared.log.Log.{Log}
use Rattle.rr_log.specs.Log.{disk_of, is_broken, place_of, next_number, root_number, ticks_left, IsPastLast, HasNoRoom}
use Rattle.rr_pages.specs.FreePages.{present_of}
use Rattle.rr_pages.specs.Sets.{TooFewFree, all_marked}
use Rattle.rr_reading.specs.Reading.{NoneReached}
use Rattle.rr_checkpoint.specs.declared.plan.transcript.Transcript.{Transcript}
use Rattle.rr_checkpoint.specs.Plan.Standing.{staying_pages}
use Rattle.rr_checkpoint.specs.Checkpoint.{left_behind_first}
use Rattle.rr_log.specs.Lent.{Lent, lent_in, pages_of}
use Rattle.rr_reading.specs.Worlds.World.{World}

-- the world behind a record whose keeping ended so
abbrev pub world_behind : {T : Type 0} → Result T Fault → World → World → World
world_behind (Ok value) old new = new
world_behind (Err fault) old new = old

-- the number of the next record behind that: one more, or the same; where the device failed it isn't known
abbrev pub NumberBehind : {T : Type 0} → Result T Fault → ℕ → ℕ → Type 0
NumberBehind (Ok value) old new = new ≡ old + 1
NumberBehind (Err F.DeviceFailed) old new = Unit {0}
NumberBehind (Err F.HalfFull) old new = new ≡ old
NumberBehind (Err F.FileFull) old new = new ≡ old
NumberBehind (Err F.OpenAgain) old new = new ≡ old
NumberBehind (Err F.OutOfMemory) old new = new ≡ old

-- the layout of its file behind a record whose keeping ended so
abbrev pub layout_behind : {T : Type 0} {codec : Codec} → Result T Fault → Layout codec → List ℕ → codec.World → Layout codec
layout_behind (Ok value) layout line world = with_line layout line world
layout_behind (Err fault) layout line world = layout

-- the layout on which a checkpoint begins: the other half has the records that an opening found there, and else none
abbrev pub as_begun : {codec : Codec} → Layout codec → Layout codec
as_begun layout = with_far layout (Begun (far_lines layout.far))

-- a checkpoint is begun on a layout: the root stays, and so does the world before the first record of the other half
pub record IsBegunOn {codec : Codec} (old new : Layout codec) : Type 0 where
  pub root : new.root ≡ old.root
  pub middle : new.middle ≡ old.middle
  pub far : new.far ≡ (as_begun old).far

-- A file takes the root of the number next to this one, whose chains spell the world, and no record stands behind it.
pub record TakesRootOf (codec : Codec) (number : ℕ) (world : codec.World) (file : List ℕ) : Type 0 where
  pub stands : Stands codec file world
  pub next : stands.root.number ≡ number + 1
  pub base : stands.base ≡ world
  pub nothing_near : stands.near ≡ []
  pub nothing_far : stands.far ≡ []

-- but for pages that were taken for a checkpoint and given back, all is as it was
pub record IsUnchanged {D R : Type 0} (old new : Log D R) : Type 0 where
  pub disk : disk_of new ≡ disk_of old
  pub place : place_of new ≡ place_of old
  pub root : root_number new ≡ root_number old
  pub left : ticks_left new ≡ ticks_left old
  pub broken : is_broken new ≡ is_broken old
  pub pages : present_of (file.free_of new.writer) ≡ present_of (file.free_of old.writer)
  pub kit : new.kit ≡ old.kit
  pub standing : new.standing ≡ old.standing
  pub base : new.base ≡ old.base

-- A tick lowers what is left by one, and `Done` comes exactly with the last one. The first of a checkpoint leaves so
-- many.
abbrev pub LowersFrom : ℕ → Tick → ℕ → ℕ → Type 0
LowersFrom first Idle old new = (old ≡ 0) × (new ≡ 0)
LowersFrom first More old new = (0 < new) × (0 < old → old ≡ new + 1) × (old ≡ 0 → new ≡ first)
LowersFrom first Done old new = (old ≡ 1) × (new ≡ 0)

-- the number of the root that is taken: one more behind the last tick of a checkpoint, and else the same
abbrev pub NumbersRoot : Tick → ℕ → ℕ → Type 0
NumbersRoot Idle old new = new ≡ old
NumbersRoot More old new = new ≡ old
NumbersRoot Done old new = new ≡ old + 1

-- the tables and snapshots that a checkpoint begun now writes: those from before the first record of the other half, or
-- those that are lent
abbrev pub tables_due : Option Transcript → Lent → Lent
tables_due None lent = lent
tables_due (Some base) lent = lent_in base

-- how many ticks the first one leaves of a checkpoint that is begun now: one for each page that it lays, and three
-- more, or one fewer where an opening found it begun
abbrev pub first_left : {D R : Type 0} → Log D R → Lent → ℕ
first_left log lent = left_behind_first (place_of log).begun (pages_of log.standing.items (tables_due log.base lent))

-- how many ticks it has, its first one included
abbrev pub ticks_due : {D R : Type 0} → Log D R → Lent → ℕ
ticks_due log lent = first_left log lent + 1

-- Beside those of the texts, and of the snapshots that stand already, fewer pages are free than the chains of these
-- tables and of the other snapshots, and their directory, take.
abbrev pub HasTooFewFree : {D R : Type 0} → Log D R → Lent → Type 0
HasTooFewFree log lent =
    (none : List Bool) → NoneReached none
    → TooFewFree (present_of (file.free_of log.writer))
    (all_marked none (staying_pages log.kit log.standing.items lent.snapshots)) (pages_of log.standing.items lent)

-- a checkpoint finds too few pages, or the next record's number or its root's would be past the last
abbrev pub IsFileFull : {D R : Type 0} → Log D R → Lent → Type 0
IsFileFull log lent =
    IsPastLast (next_number log) ⊎ IsPastLast (root_number log + 1) ⊎ HasTooFewFree log (tables_due log.base lent)

-- The next record's number would be past the last. Or the half in use has no room for a record of so many bytes, and a
-- checkpoint, which would make room, finds too few free pages or no number for its root.
abbrev pub MeetsFullFile : {D R : Type 0} → Log D R → Lent → ℕ → Type 0
MeetsFullFile log lent count =
    IsPastLast (next_number log) ⊎ (HasNoRoom (place_of log) count × (ticks_left log ≡ 0) × IsFileFull log lent)

-- Why a record of so many bytes isn't kept: there is no room for it where it would go, and if a tick was put off for
-- want of pages or memory, that is told. Or its number would be past the last.
abbrev pub MayRefuse : Place → ℕ → Fault → Type 0
MayRefuse place count F.DeviceFailed = Unit {0}
MayRefuse place count F.HalfFull = HasNoRoom place count
MayRefuse place count F.FileFull = HasNoRoom place count ⊎ IsPastLast place.number
MayRefuse place count F.OpenAgain = Unit {0}
MayRefuse place count F.OutOfMemory = HasNoRoom place count
