-- What is known of a store's file, and what its ticks answer.
use Rattle.std.specs.Prelude.{◌≡◌, ℕ, ◌+◌, ◌<◌, Option, None, Some}
use Rattle.rr_disk.specs.Disk.{DiskState}
use Rattle.rr_pages.specs.declared.choosing.Taken.{Taken}
use Rattle.rr_pages.specs.declared.free_pages.FreePages.{FreePages}
use Rattle.rr_images.specs.Calls.{TakesNewer}
use Rattle.rr_images.specs.Codec.{Codec}
use Rattle.rr_images.specs.Layout.{Layout}
use Rattle.rr_disk.specs.Moments.{EachImage}
use Rattle.rr_checkpoint.specs.declared.checkpoint.Checkpoint.{Checkpoint}
use Rattle.rr_checkpoint.specs.declared.place.Place.{Place}
use Rattle.rr_checkpoint.specs.declared.writer.Tick.{Tick}
use Rattle.rr_checkpoint.specs.declared.writer.Tick.TheVariants.{Idle, More, Done}
use Rattle.rr_checkpoint.specs.declared.writer.Writer.{Writer}
use Rattle.rr_checkpoint.specs.Checkpoint.{left_of}
use Rattle.rr_checkpoint.specs.OpenFile.{CarriesWith}

abbrev pub place_of : {C : Type 0} → Writer C → Place
place_of writer = writer.file.place

abbrev pub taken_of : {C : Type 0} → Writer C → Taken
taken_of writer = writer.file.taken

abbrev pub free_of : {C : Type 0} → Writer C → FreePages
free_of writer = writer.file.free

-- how many ticks the checkpoint under way has left, 0 without one
abbrev pub ticks_left_of : {C : Type 0} → Writer C → ℕ
ticks_left_of writer = left_of writer.checkpoint

-- what the writer knows of its file carries this world
abbrev pub Carries : {C : Type 0} → (codec : Codec) → Writer C → DiskState → codec.World → Type 0
Carries codec writer state world = CarriesWith codec writer.file writer.checkpoint state world

-- a tick lowers what is left by one, and answers whether that was the last
abbrev pub Lowers : Tick → ℕ → ℕ → Type 0
Lowers Idle old new = (old ≡ 0) × (new ≡ 0)
Lowers More old new = (old ≡ new + 1) × (0 < new)
Lowers Done old new = (old ≡ 1) × (new ≡ 0)

-- behind the last tick each file that a stop may leave takes a newer root
abbrev pub RenewsAt : (codec : Codec) → Tick → Layout codec → DiskState → codec.World → Type 0
RenewsAt codec Idle layout new world = Unit {0}
RenewsAt codec More layout new world = Unit {0}
RenewsAt codec Done layout new world = EachImage new (TakesNewer codec layout world)

-- before the last tick the same root is taken
abbrev pub StaysTakenAt : Tick → Taken → Taken → Type 0
StaysTakenAt Idle old new = new ≡ old
StaysTakenAt More old new = new ≡ old
StaysTakenAt Done old new = Unit {0}

-- what a tick tells of the checkpoint whose step it made
abbrev pub told_at : Option Checkpoint → Tick
told_at None = Done
told_at (Some checkpoint) = More

abbrev pub told_of : {C : Type 0} → Writer C → Tick
told_of writer = told_at writer.checkpoint
