-- What a step of a checkpoint, or a whole one, does to a store.
use Rattle.std.specs.Prelude.{◌≡◌, ◌↔◌, ℕ, ◌+◌, ◌<◌, ◌≤◌, false, List, Result, Ok, Err, IfErr, IsErrOf, IsTrue}
use Rattle.rr_disk.specs.Disk.{DiskState}
use Rattle.rr_disk.specs.Moments.{LeavesOnly}
use Rattle.rr_kit.specs.Kits.{KitTexts}
use Rattle.rr_log.specs.Calls as log
use Rattle.rr_tables.specs.Records.Headline.{KeepsTables}
use Rattle.rr_store.specs.declared.fault.Fault.{Fault}
use Rattle.rr_store.specs.declared.fault.Fault.TheVariants as F
use Rattle.rr_store.specs.declared.store.Store.{Store}
use Rattle.rr_store.specs.Allowing.{Between, TickAllows}
use Rattle.rr_store.specs.Fault.{CountsEnd, OnDeviceFault}
use Rattle.rr_store.specs.Held.{Held, with_failure}
use Rattle.rr_store.specs.Holding.{Carries, GamesArePlayed, GamesHaveSnapshots, IsUnchanged, disk_of, file_of, held_of, lent_of, number_of_next, ticks_left}
use Rattle.rr_store.specs.Named.{KeepsNames, LendsNamed, NamesComing, NamesRoots, NamesSnapshots}

-- what is held behind a call that takes no request: the same, unless the device failed
abbrev pub held_behind : {T : Type 0} → Result T Fault → Held → Held
held_behind (Ok value) old = old
held_behind (Err F.DeviceFailed) old = with_failure old
held_behind (Err fault) old = old

-- but for pages that were taken for a checkpoint and given back, all is as it was
pub record IsSpared {D : Type 0} (old new : Store D) : Type 0 where
  pub same_file : log.IsUnchanged (file_of old) (file_of new)
  pub same_held : held_of new ≡ held_of old

-- When each refusal comes, and what it leaves. Pages and memory are wanted by the first step alone.
abbrev pub RefusesStep : {D : Type 0} → Store D → Store D → Fault → Type 0
RefusesStep old new F.DeviceFailed = Unit {0}
RefusesStep old new F.FileFull =
    (ticks_left old ≡ 0) × log.IsFileFull (file_of old) (lent_of old) × IsSpared old new
RefusesStep old new F.OutOfMemory = (ticks_left old ≡ 0) × IsSpared old new
RefusesStep old new F.OpenAgain = IsUnchanged old new
RefusesStep old new _ = ⊥

-- What steps of a checkpoint do: on an honest disk that carries what is held, at each moment and at the end every image stands
-- for that and keeps it, and the disk carries it on. Of every disk: what is held stays, and so does the number of the next
-- record; a broken store refuses, and no other; and a device fault is told exactly where the disk counts one. An honest disk
-- that works, and carries what is held, is never told to have failed. Roots that have just the snapshots that their tables are
-- to have stay so, and so does the one that is coming, if what is lent to a checkpoint that begins is so; behind the last
-- step of one the root is so that was coming; and of such roots a stop at any moment leaves a file whose root is so.
pub record Steps {D T : Type 0} (Honest Works : D → Type 0) (state : D → DiskState) (past : D → List DiskState) (faults : D → ℕ)
    (old : Store D) (result : Result T Fault) (new : Store D) : Type 0 where
  pub honest : Honest (disk_of new) → Honest (disk_of old)
  pub allowed : Honest (disk_of new) → (texts : KitTexts) → Carries state old texts
      → Between (past (disk_of old)) (state (disk_of old)) (past (disk_of new)) (state (disk_of new))
      (λ moments. TickAllows texts (held_of old).tables (state (disk_of old)) moments (state (disk_of new)))
  pub keeps : Honest (disk_of new) → (texts : KitTexts) → Carries state old texts
      → LeavesOnly (past (disk_of old)) (state (disk_of old)) (past (disk_of new)) (state (disk_of new))
      (KeepsTables texts (held_of old).tables)
  pub carries : Honest (disk_of new) → (held_of new).broken ≡ false → (texts : KitTexts) → Carries state old texts → Carries state new texts
  pub names : Honest (disk_of new) → (held_of new).broken ≡ false → (texts : KitTexts) → Carries state old texts
      → (ticks_left old ≡ 0 → LendsNamed old) → KeepsNames state old new texts
  pub renews_names : Honest (disk_of new) → (held_of new).broken ≡ false → ticks_left old ≡ 1 → ticks_left new ≡ 0 → (texts : KitTexts)
      → Carries state old texts → NamesComing state old texts → NamesRoots state new texts
  pub names_stops : Honest (disk_of new) → (texts : KitTexts) → Carries state old texts → (ticks_left old ≡ 0 → LendsNamed old)
      → NamesRoots state old texts
      → LeavesOnly (past (disk_of old)) (state (disk_of old)) (past (disk_of new)) (state (disk_of new)) (NamesSnapshots (held_of old).kit)
  pub held : held_of new ≡ held_behind result (held_of old)
  pub played : GamesArePlayed old → GamesArePlayed new
  pub snapshots : GamesHaveSnapshots old → GamesHaveSnapshots new
  pub number : number_of_next new ≡ number_of_next old
  pub again : IsErrOf result F.OpenAgain ↔ IsTrue (held_of old).broken
  pub refused : IfErr result (RefusesStep old new)
  pub counts : CountsEnd (faults (disk_of old)) (faults (disk_of new)) result
  pub works : Works (disk_of new) → Works (disk_of old)
  pub device : OnDeviceFault result (Honest (disk_of new) → (texts : KitTexts) → Carries state old texts → Works (disk_of new) → ⊥)

-- A whole checkpoint makes one such call at most for each tick that was left, or for each that one begun then has.
pub record MakesFew {D : Type 0} (calls : D → ℕ) (old new : Store D) : Type 0 where
  pub under_way : 0 < ticks_left old → calls (disk_of new) ≤ calls (disk_of old) + ticks_left old
  pub begun : ticks_left old ≡ 0
      → calls (disk_of new) ≤ calls (disk_of old) + log.ticks_due (file_of old) (lent_of old)
