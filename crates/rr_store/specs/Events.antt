-- The calls on a store as events of a schedule.
use Rattle.std.specs.Prelude.{◌≡◌, ℕ, List, ◌∷◌, ◌++◌, false, Result, Ok, Err, IfOk, IfErr}
use Rattle.rr_code.specs.declared.command.Command.{Command}
use Rattle.rr_disk.specs.Disk.{DiskState}
use Rattle.rr_kit.specs.declared.kit.Kit.{Kit}
use Rattle.rr_kit.specs.Kits.{KitTexts, SpellsKit}
use Rattle.rr_tables.specs.Records.Headline.{KeepsTables}
use Rattle.rr_tables.specs.Records.Schedules.{LeadsTo, of_tables}
use Rattle.rr_tables.specs.Records.Words.{in_words}
use Rattle.rr_images.specs.Schedules.Schedule.{Again, Cut, Done, Ending, Failed, IsImageOfOne, MayCommit, MayOpen, MayTick, OpenCut, OpenEnding, Opened, Refused, TurnedAway, Unread}
use Rattle.rr_turns.specs.declared.request.Request.{Request}
use Rattle.rr_reading.specs.Worlds.World as words
use Rattle.rr_store.specs.declared.fault.Fault.{Fault}
use Rattle.rr_store.specs.declared.fault.Fault.TheVariants as F
use Rattle.rr_store.specs.declared.opening.Refused as opening
use Rattle.rr_store.specs.declared.store.Store.{Store}
use Rattle.rr_store.specs.Allowing.{Between}
use Rattle.rr_store.specs.Committing.{Commits}
use Rattle.rr_store.specs.Files.{AreTablesOf}
use Rattle.rr_store.specs.Holding.{Carries, disk_of, held_of}
use Rattle.rr_store.specs.Opening.{IsNoVerdict, OpenAllows}
use Rattle.rr_store.specs.Ticking.{Steps}
use Rattle.rr_store.specs.World.{World, for_table}

-- how a call on a store ended
abbrev pub ending_of : {T : Type 0} → Result T Fault → Ending
ending_of (Ok value) = Done
ending_of (Err F.DeviceFailed) = Failed
ending_of (Err F.OpenAgain) = Again
ending_of (Err fault) = Refused

-- the world that a store holds, in words
abbrev pub world_in : {D : Type 0} → KitTexts → Store D → words.World
world_in texts store = in_words texts (held_of store).tables

-- how an opening ended
abbrev pub refusal_of : Fault → OpenEnding words.World
refusal_of F.DeviceFailed = Unread
refusal_of F.OutOfMemory = Unread
refusal_of fault = TurnedAway

abbrev pub open_ending_of : {D : Type 0} → KitTexts → Result (Store D) (opening.Refused D) → OpenEnding words.World
open_ending_of texts (Ok store) = Opened (world_in texts store)
open_ending_of texts (Err refused) = refusal_of refused.fault

abbrev pub disk_behind : {D : Type 0} → Result (Store D) (opening.Refused D) → D
disk_behind (Ok store) = disk_of store
disk_behind (Err refused) = refused.disk

-- the moments of a call: the disk's states since its start, newest first
abbrev pub Passes : {D : Type 0} → (D → DiskState) → (D → List DiskState) → D → D → List DiskState → Type 0
Passes state past old new moments = state new ∷ past new ≡ moments ++ state old ∷ past old

-- what an opening's contract says
pub record Opens {D : Type 0} (Honest : D → Type 0) (state : D → DiskState) (past : D → List DiskState)
    (disk : D) (result : Result (Store D) (opening.Refused D)) : Type 0 where
  pub opened : IfOk result (λ store. Honest (disk_of store) → (texts : KitTexts)
      × Between (past disk) (state disk) (past (disk_of store)) (state (disk_of store))
      (λ moments. OpenAllows (state disk) moments (state (disk_of store)) (Ok (texts, (held_of store).tables)))
      × SpellsKit texts (held_of store).kit)
  pub left : IfErr result (λ refused. Honest refused.disk
      → Between (past disk) (state disk) (past refused.disk) (state refused.disk)
      (λ moments. OpenAllows (state disk) moments (state refused.disk) (Err refused.fault)))
  pub carries : IfOk result (λ store. Honest (disk_of store) → (texts : KitTexts)
      → KeepsTables texts (held_of store).tables (state disk).content → Carries state store texts)
  pub only : IfErr result (λ refused. Honest refused.disk → (texts : KitTexts) (kit : Kit) (tables : World)
      → SpellsKit texts kit → AreTablesOf kit tables
      → KeepsTables texts tables (state disk).content → IsNoVerdict refused.fault)
  pub whole : IfOk result (λ store. (held_of store).broken ≡ false)
  pub honest : IfOk result (λ store. Honest (disk_of store) → Honest disk)
  pub honest_left : IfErr result (λ refused. Honest refused.disk → Honest disk)

-- A commit is one, however it ends, and so is a stop within it. Where it took the request, it led to what the store holds now.
pub record CommitIsEvent {D : Type 0} (state : D → DiskState) (texts : KitTexts) (old : Store D) (name : List ℕ)
    (request : Request Command) (result : Result ℕ Fault) (new : Store D) (moments : List DiskState) : Type 0 where
  pub ends : MayCommit of_tables (world_in texts old) (for_table name request) moments (state (disk_of new)) (ending_of result)
  pub leads : ending_of result ≡ Done → LeadsTo (for_table name request) (world_in texts old) (world_in texts new)
  pub cut : (image : List ℕ) → IsImageOfOne moments image
      → MayCommit of_tables (world_in texts old) (for_table name request) moments (state (disk_of new)) (Cut image)

-- and so is a step of a checkpoint, or a whole one
pub record StepIsEvent {D T : Type 0} (state : D → DiskState) (texts : KitTexts) (old : Store D)
    (result : Result T Fault) (new : Store D) (moments : List DiskState) : Type 0 where
  pub ends : MayTick of_tables (world_in texts old) moments (state (disk_of new)) (ending_of result)
  pub cut : (image : List ℕ) → IsImageOfOne moments image
      → MayTick of_tables (world_in texts old) moments (state (disk_of new)) (Cut image)

-- And an opening of a file that keeps tables of a kit: the store holds just these tables, and the file carries them on; or the
-- device failed or memory was wanted. It isn't turned away.
pub record OpenIsEvent {D : Type 0} (state : D → DiskState) (texts : KitTexts) (tables : World) (disk : D)
    (result : Result (Store D) (opening.Refused D)) (moments : List DiskState) : Type 0 where
  pub ends : MayOpen of_tables (state disk) moments (state (disk_behind result)) (open_ending_of texts result)
  pub cut : (image : List ℕ) → IsImageOfOne moments image
      → MayOpen of_tables (state disk) moments (state (disk_behind result)) (OpenCut image)
  pub opened : IfOk result (λ store. ((held_of store).broken ≡ false) × ((held_of store).tables ≡ tables) × Carries state store texts)
  pub left : IfErr result (λ refused. IsNoVerdict refused.fault)

module _ {D : Type 0} (Honest Works : D → Type 0) (state : D → DiskState) (past : D → List DiskState) (faults writes syncs : D → ℕ) where
  abbrev pub CommitsAreEvents : Type 0
  CommitsAreEvents =
      (texts : KitTexts) (old new : Store D) (name : List ℕ) (stamp : ℕ) (request : Request Command) (result : Result ℕ Fault)
      → (moments : List DiskState) → Commits Honest Works state past faults writes syncs old name stamp request new result
      → Honest (disk_of new) → Carries state old texts → (held_of old).broken ≡ false
      → Passes state past (disk_of old) (disk_of new) moments → CommitIsEvent state texts old name request result new moments

  abbrev pub StepsAreEvents : Type 0 → Type 0
  StepsAreEvents T =
      (texts : KitTexts) (old new : Store D) (result : Result T Fault) (moments : List DiskState)
      → Steps Honest Works state past faults old result new → Honest (disk_of new) → Carries state old texts
      → (held_of old).broken ≡ false → Passes state past (disk_of old) (disk_of new) moments
      → StepIsEvent state texts old result new moments

  abbrev pub OpensAreEvents : Type 0
  OpensAreEvents =
      (texts : KitTexts) (kit : Kit) (tables : World) (disk : D) (result : Result (Store D) (opening.Refused D))
      → (moments : List DiskState) → Opens Honest state past disk result → Honest (disk_behind result)
      → SpellsKit texts kit → AreTablesOf kit tables → KeepsTables texts tables (state disk).content
      → Passes state past disk (disk_behind result) moments → OpenIsEvent state texts tables disk result moments
