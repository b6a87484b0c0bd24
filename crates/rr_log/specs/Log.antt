-- What a log is at.
use Rattle.std.specs.Prelude.{◌≡◌, ◌⊎◌, ℕ, ◌+◌, ◌^◌, ◌≤◌, Bool, List, None, map}
use Rattle.rr_checkpoint.specs.declared.place.Place.{Place}
use Rattle.rr_checkpoint.specs.declared.writer.Writer.{Writer}
use Rattle.rr_checkpoint.specs.Plan.Standing.{standing_as}
use Rattle.rr_checkpoint.specs.Writer as file
use Rattle.rr_pages.specs.declared.free_pages.FreePages.{FreePages}
use Rattle.rr_pages.specs.Journal.Layout.{HasRoom}
use Rattle.rr_log.specs.declared.log.Log.{Log}
use Rattle.rr_reading.specs.declared.worlds.rules.Worlds.{Worlds}
use Rattle.rr_reading.specs.Worlds.World.{Snapshot}

abbrev pub disk_of : {D R : Type 0} → Log D R → D
disk_of log = log.disk

abbrev pub writer_of : {D R : Type 0} → Log D R → Writer (Worlds R)
writer_of log = log.writer

-- the snapshots of which it knows where they stand
abbrev pub known_snapshots : {D R : Type 0} → Log D R → List Snapshot
known_snapshots log = map standing_as log.standing.items

-- a device call of it failed
abbrev pub is_broken : {D R : Type 0} → Log D R → Bool
is_broken log = log.broken

-- which pages of its file are free
abbrev pub free_of : {D R : Type 0} → Log D R → FreePages
free_of log = file.free_of log.writer

-- where the next record goes, and its number
abbrev pub place_of : {D R : Type 0} → Log D R → Place
place_of log = file.place_of log.writer

abbrev pub next_number : {D R : Type 0} → Log D R → ℕ
next_number log = (place_of log).number

-- the number of the root that is taken
abbrev pub root_number : {D R : Type 0} → Log D R → ℕ
root_number log = (file.taken_of log.writer).root.number

-- how many ticks the checkpoint under way has left, 0 without one
abbrev pub ticks_left : {D R : Type 0} → Log D R → ℕ
ticks_left log = file.ticks_left_of log.writer

-- no checkpoint is under way, nor did an opening find one begun: records go on in the half that the root names
abbrev pub HasNoneBegun : Place → Type 0
HasNoneBegun place = place.begun ≡ None

-- without a checkpoint under way a tick begins one: an opening found it begun, or at least 128 slots of the half are
-- used
abbrev pub IsDue : Place → Type 0
IsDue place = (place.begun ≡ None → ⊥) ⊎ (128 ≤ place.half.next_slot)

-- a number that no record and no root may have, nor a greater one
abbrev pub IsPastLast : ℕ → Type 0
IsPastLast number = 2 ^ 63 ≤ number + 1

-- the half in use has no room for a record of so many bytes
abbrev pub HasNoRoom : Place → ℕ → Type 0
HasNoRoom place count = HasRoom place.half.next_slot count → ⊥

-- a record of so many bytes has room in no half: it takes more than eight slots
abbrev pub IsTooLong : ℕ → Type 0
IsTooLong count = HasRoom 0 count → ⊥
