-- What keeping the record of a request does to the open file.
use Rattle.std.specs.Prelude.{◌≡◌, ◌⊎◌, ◌↔◌, ℕ, ◌+◌, ◌<◌, ◌≤◌, Bool, false, true, List, length, Option, Result, Ok, Err, IfOk, IsErrOf, IsTrue, OnOk}
use Rattle.rr_checkpoint.specs.Calls.{LeavesEither}
use Rattle.rr_checkpoint.specs.Checkpoint.{left_behind_first}
use Rattle.rr_checkpoint.specs.Growing.{GrowsWhereFull}
use Rattle.rr_disk.specs.Disk.{DiskState}
use Rattle.rr_disk.specs.Moments.{EachImage, LeavesOnly}
use Rattle.rr_images.specs.Calls.{TakesNewer}
use Rattle.rr_images.specs.Layout.{Keeps}
use Rattle.rr_kit.specs.declared.kit.Kit.{Kit}
use Rattle.rr_log.specs.declared.fault.Fault.{Fault}
use Rattle.rr_log.specs.declared.fault.Fault.TheVariants as F
use Rattle.rr_log.specs.declared.keeping.PutOff.{PutOff}
use Rattle.rr_log.specs.declared.log.Log.{Log}
use Rattle.rr_log.specs.Calls.{MeetsFullFile, NumberBehind, layout_behind, ticks_due, world_behind}
use Rattle.rr_log.specs.Carrying.{Carries}
use Rattle.rr_log.specs.Fault.{CountsFault, OnDeviceFault, ends_broken}
use Rattle.rr_log.specs.Growing.{Grows, TakesPages}
use Rattle.rr_log.specs.Log.{HasNoRoom, IsDue, IsPastLast, IsTooLong, disk_of, free_of, is_broken, next_number, place_of, ticks_left}
use Rattle.rr_log.specs.PuttingOff.{BeginsIfDue}
use Rattle.rr_pages.specs.FreePages.{coming_of, present_of}
use Rattle.rr_tables.specs.declared.records.rules.TableRules.{TableRules}
use Rattle.rr_tables.specs.Records.Taking.{Takes, table_files, table_rules}
use Rattle.rr_log.specs.Lent.{AreLentOf, Lent}
use Rattle.rr_reading.specs.Worlds.World as words
use Rattle.rr_store.specs.NamedRoots.{AreTheirSnapshots, IsNamed, KeepsNames, NamesComing, NamesRoots}

-- the half in use has no room for a record of these bytes, or the record's number would be past the last
abbrev pub IsFull : {D R : Type 0} → Log D R → List ℕ → Type 0
IsFull log bytes = HasNoRoom (place_of log) (length bytes) ⊎ IsPastLast (next_number log)

-- what is told where a second attempt to keep a record fails: a half without room is a full file then
abbrev pub told_of : Fault → Fault
told_of F.HalfFull = F.FileFull
told_of F.DeviceFailed = F.DeviceFailed
told_of F.FileFull = F.FileFull
told_of F.OpenAgain = F.OpenAgain
told_of F.OutOfMemory = F.OutOfMemory

-- how the keeping of a record ended, and of one that was kept why a checkpoint was put off with it
abbrev pub with_reason : Result (Unit {0}) Fault → Option PutOff → Result (Option PutOff) Fault
with_reason (Ok kept) put_off = Ok put_off
with_reason (Err fault) put_off = Err fault

-- no checkpoint is under way, and none is to begin
pub record Rests {D R : Type 0} (log : Log D R) : Type 0 where
  pub none_left : ticks_left log ≡ 0
  pub none_due : IsDue (place_of log) → ⊥

-- How far a checkpoint comes: one that was under way by a step. Else none is begun, or one that has four steps left at least, or
-- three where the opening found it begun; and where none was to begin, none is.
pub record ComesOn {D R : Type 0} (old new : Log D R) : Type 0 where
  pub left : 0 < ticks_left old → ticks_left old ≡ ticks_left new + 1
  pub begins : ticks_left old ≡ 0 → (ticks_left new ≡ 0) ⊎ (left_behind_first (place_of old).begun 1 ≤ ticks_left new)
  pub rests : Rests old → ticks_left new ≡ 0

-- How many such calls a record takes at most, whatever is to be done to make room for it: one for each step that is left of the
-- checkpoint under way, or for each that one begun now has, and three more. Two of these are the record's, and one is the next
-- checkpoint's.
pub record MakesAtMost {D R : Type 0} (calls : D → ℕ) (lent : Lent) (old new : Log D R) : Type 0 where
  pub under_way : 0 < ticks_left old → calls (disk_of new) ≤ calls (disk_of old) + ticks_left old + 3
  pub begun : ticks_left old ≡ 0 → calls (disk_of new) ≤ calls (disk_of old) + ticks_due old lent + 3

-- how long a file on a disk is
abbrev pub length_on : {D : Type 0} → (D → DiskState) → D → ℕ
length_on state disk = length (state disk).content

-- The pages that are coming behind a call are those of a checkpoint that is under way then. If a device call failed,
-- they are those of the one that was under way before, where that had more than one step left.
pub record AreComing {D R : Type 0} (old new : Log D R) : Type 0 where
  pub under_way : is_broken new ≡ false → 0 < ticks_left new
  pub failed : is_broken new ≡ true → 1 < ticks_left old → free_of new ≡ free_of old

-- A call makes the file longer only where two roots leave no page under its end free: the one that is taken before it,
-- and the one that is taken behind it, or that is coming then.
pub record GrowsInAll {D R : Type 0} (state : D → DiskState) (old new : Log D R) : Type 0 where
  pub pages : List Bool
  pub of_root : (pages ≡ present_of (free_of new)) ⊎ ((pages ≡ coming_of (free_of new)) × AreComing old new)
  pub full : GrowsWhereFull (present_of (free_of old)) pages (length_on state (disk_of old)) (length_on state (disk_of new))

-- What keeping a record does: of every disk, where nothing else is said.
pub record Keeping {D : Type 0} (Honest Works : D → Type 0) (state : D → DiskState) (past : D → List DiskState) (faults writes syncs : D → ℕ)
    (old : Log D TableRules) (lent : Lent) (bytes : List ℕ) (result : Result (Option PutOff) Fault) (new : Log D TableRules) : Type 0 where
  pub honest : Honest (disk_of new) → Honest (disk_of old)
  -- of an honest disk that carries a world of which these tables and snapshots are lent: a stop at any moment leaves a file that
  -- keeps this world, or the one to which the record leads; and behind it the file carries the one that the answer tells
  pub stops : Honest (disk_of new) → (before behind : words.World) → Takes bytes before behind → AreLentOf table_rules before lent
      → Carries table_rules old (state (disk_of old)) before
      → LeavesOnly (past (disk_of old)) (state (disk_of old)) (past (disk_of new)) (state (disk_of new))
      (λ image. Keeps table_files image before ⊎ Keeps table_files image behind)
  pub carries : Honest (disk_of new) → is_broken new ≡ false → (before behind : words.World) → Takes bytes before behind → AreLentOf table_rules before lent
      → Carries table_rules old (state (disk_of old)) before → Carries table_rules new (state (disk_of new)) (world_behind result before behind)
  -- behind the last step of a checkpoint, where no other is begun, each file that a stop may leave takes a newer root, whose
  -- chains spell the world as the checkpoint began; only the records since then stand behind it
  pub renews : is_broken new ≡ false → ticks_left old ≡ 1 → ticks_left new ≡ 0 → Honest (disk_of new) → (before behind : words.World) → Takes bytes before behind
      → (carries : Carries table_rules old (state (disk_of old)) before)
      → EachImage (state (disk_of new)) (TakesNewer table_files (layout_behind result carries.carried.layout bytes behind) (world_behind result before behind))
  -- roots that name just the snapshots that their tables are to have stay so, and so does the one that is coming, if what is
  -- lent to a checkpoint that begins is so; behind the last step of one the root is so that was coming
  pub names : Honest (disk_of new) → is_broken new ≡ false → (kit : Kit) (before behind : words.World) → Takes bytes before behind → AreLentOf table_rules before lent
      → ((ticks_left old ≡ 0) ⊎ IsFull old bytes → AreTheirSnapshots kit before lent.snapshots)
      → KeepsNames kit state old before new (world_behind result before behind)
  pub renews_names : Honest (disk_of new) → is_broken new ≡ false → ticks_left old ≡ 1 → ticks_left new ≡ 0 → (kit : Kit) (before behind : words.World)
      → Takes bytes before behind → AreLentOf table_rules before lent
      → NamesComing kit old (state (disk_of old)) before → NamesRoots kit new (state (disk_of new)) (world_behind result before behind)
  -- and of such roots a stop at any moment leaves a file with a root that is so, whether the call returns or not
  pub names_stops : Honest (disk_of new) → (kit : Kit) (before behind : words.World) → Takes bytes before behind → AreLentOf table_rules before lent
      → ((ticks_left old ≡ 0) ⊎ IsFull old bytes → AreTheirSnapshots kit before lent.snapshots) → NamesRoots kit old (state (disk_of old)) before
      → LeavesEither table_files (IsNamed kit) (past (disk_of old)) (state (disk_of old)) (past (disk_of new)) (state (disk_of new)) before behind
  -- the next record's number is one more behind a record that was kept; a broken log refuses and stays as it is, and a log is
  -- broken exactly where the device failed
  pub number : NumberBehind result (next_number old) (next_number new)
  pub again : IsErrOf result F.OpenAgain ↔ IsTrue (is_broken old)
  pub untouched : IsErrOf result F.OpenAgain → new ≡ old
  pub broken : is_broken new ≡ ends_broken result
  -- the file is full only where the record takes more than eight slots, or where behind the call its number would be past
  -- the last, or the half in use has no room for it and a checkpoint finds too few free pages or no number for its root; that a half
  -- is full is never told
  pub full : IsErrOf result F.FileFull → IsTooLong (length bytes) ⊎ MeetsFullFile new lent (length bytes)
  pub room : IsErrOf result F.HalfFull → ⊥
  -- memory is wanted only before anything is changed, or where behind the call the half in use has no room
  pub memory : IsErrOf result F.OutOfMemory → (new ≡ old) ⊎ HasNoRoom (place_of new) (length bytes)
  pub counts : CountsFault (faults (disk_of old)) (faults (disk_of new)) result
  pub works : Works (disk_of new) → Works (disk_of old)
  -- an honest disk that works, and carries such a world, is never told to have failed
  pub device : OnDeviceFault result (Honest (disk_of new) → (before behind : words.World) → Takes bytes before behind → AreLentOf table_rules before lent
      → Carries table_rules old (state (disk_of old)) before → Works (disk_of new) → ⊥)
  -- where there was room and a number, three writes and three syncs are made at most, two of each where no checkpoint was under
  -- way or to begin
  pub few_writes : (IsFull old bytes → ⊥) → writes (disk_of new) ≤ writes (disk_of old) + 3
  pub few_syncs : (IsFull old bytes → ⊥) → syncs (disk_of new) ≤ syncs (disk_of old) + 3
  pub own_writes : (IsFull old bytes → ⊥) → Rests old → writes (disk_of new) ≤ writes (disk_of old) + 2
  pub own_syncs : (IsFull old bytes → ⊥) → Rests old → syncs (disk_of new) ≤ syncs (disk_of old) + 2
  pub most_writes : MakesAtMost writes lent old new
  pub most_syncs : MakesAtMost syncs lent old new
  -- with a record that was kept in such room a checkpoint comes on; one that was kept without stands behind the first step of
  -- another, which has four left at least
  pub comes_on : OnOk result ((IsFull old bytes → ⊥) → ComesOn old new)
  pub makes_room : OnOk result (HasNoRoom (place_of old) (length bytes) → 4 ≤ ticks_left new)
  -- with a record that was kept, if a checkpoint was due and none was under way, one is under way now, or its first step was put
  -- off for the reason that is told: the file was full, or memory was refused; nothing else is put off
  pub begins_due : IfOk result (BeginsIfDue old new lent)
  -- the file becomes longer only where no page under its end is free: where there was room, as by one step of a checkpoint, and
  -- whatever is to be done, as `GrowsInAll` says
  pub grows : (IsFull old bytes → ⊥) → Honest (disk_of new) → (world : words.World) → AreLentOf table_rules world lent
      → Carries table_rules old (state (disk_of old)) world → Grows (length_on state) old new
  pub pages : (IsFull old bytes → ⊥) → TakesPages old new
  pub grows_in_all : Honest (disk_of new) → (before behind : words.World) → Takes bytes before behind → AreLentOf table_rules before lent
      → Carries table_rules old (state (disk_of old)) before → GrowsInAll state old new
