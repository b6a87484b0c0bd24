-- The law over sessions: calls made one after another on a file, each by what its contract says; stops of the machine within
-- them and between them, and programs killed within them; and any openings behind these.
use Rattle.std.specs.Prelude.{◌≡◌, ◌⊎◌, ℕ, ◌≤◌, List, [], ◌∷◌, length, Bool, true, false, Result, Ok, Err}
use Rattle.rr_checkpoint.specs.declared.writer.Tick.{Tick}
use Rattle.rr_code.specs.declared.command.Command.{Command}
use Rattle.rr_disk.specs.Disk.{DiskState, IsImage, after_failed_write, after_write}
use Rattle.rr_disk.specs.Moments.{EachImage}
use Rattle.rr_disk.specs.Replay.{settled_state}
use Rattle.rr_kit.specs.declared.kit.Kit.{Kit}
use Rattle.rr_kit.specs.Kits.{KitTexts, SpellsKit}
use Rattle.rr_tables.specs.Records.Headline.{IsSafe, KeepsTables}
use Rattle.rr_tables.specs.Records.Schedules.{of_tables}
use Rattle.rr_tables.specs.Records.Words.{in_words}
use Rattle.rr_images.specs.Schedules.Laws.{at_first}
use Rattle.rr_images.specs.Schedules.Schedule as schedule
use Rattle.rr_images.specs.Schedules.Schedule.{Commit, Cut, EventOf, Failed, IsImageOfOne, OpenCut, Opening, Runs, Stop, SystemOf, Unread}
use Rattle.rr_turns.specs.declared.request.Request.{Request}
use Rattle.rr_reading.specs.Worlds.World as words
use Rattle.rr_store.specs.declared.fault.Fault.{Fault}
use Rattle.rr_store.specs.declared.opening.Refused as opening
use Rattle.rr_store.specs.declared.store.Store.{Store}
use Rattle.rr_store.specs.Committing.{Commits}
use Rattle.rr_store.specs.Events.{Opens, Passes, disk_behind, ending_of, open_ending_of, world_in}
use Rattle.rr_store.specs.Files.{AreTablesOf}
use Rattle.rr_store.specs.Holding.{disk_of, held_of}
use Rattle.rr_store.specs.Opening.{IsNoVerdict}
use Rattle.rr_store.specs.Ticking.{Steps}
use Rattle.rr_store.specs.World.{World, for_table}

-- Who has the disk: nobody, and it lies in this state; nobody any more, since a program ended or was killed and left it in this
-- state, whether or not all of it was synced; or a store.
pub data Owner (D : Type 0) : Type 0 where
  Lies : DiskState → Owner D
  Left : DiskState → Owner D
  Has : Store D → Owner D

-- who has it behind an opening
abbrev pub owner_behind : {D : Type 0} → (D → DiskState) → Result (Store D) (opening.Refused D) → Owner D
owner_behind state (Ok store) = Has store
owner_behind state (Err refused) = Lies (state refused.disk)

-- the disk's state
abbrev pub state_under : {D : Type 0} → (D → DiskState) → Owner D → DiskState
state_under state (Lies now) = now
state_under state (Left now) = now
state_under state (Has store) = state (disk_of store)

-- a store serves the world that it holds, unless the device failed
abbrev pub serving : Bool → words.World → schedule.Holder words.World
serving false world = schedule.Serving world
serving true world = schedule.Broken

-- The holder in a schedule. That a program is gone is no event: till somebody opens the disk that it left, or the machine stops,
-- the schedule names who had it before, and neither asks who that was.
abbrev pub IsHolder : {D : Type 0} → KitTexts → Owner D → schedule.Holder words.World → Type 0
IsHolder texts (Lies now) holder = holder ≡ schedule.Nobody
IsHolder texts (Left now) holder = Unit {0}
IsHolder texts (Has store) holder = holder ≡ serving (held_of store).broken (world_in texts store)

-- A program that is killed leaves its disk in one of these moments, with all that isn't synced; or on the way to one, where a write
-- was made in part: so what a stop would leave of it, a stop would leave of that moment.
abbrev pub IsLeftIn : List DiskState → DiskState → Type 0
IsLeftIn [] now = ⊥
IsLeftIn (moment ∷ moments) now = EachImage now (IsImage moment) ⊎ IsLeftIn moments now

module _ {D : Type 0} (Honest Works : D → Type 0) (state : D → DiskState) (past : D → List DiskState) (faults writes syncs : D → ℕ)
    (texts : KitTexts) where
  -- One call, with its moments: by the relation that its contract ensures, on a disk that was honest. It makes one event where
  -- it returns; another one of each file that a stop at one of these moments leaves; and another one of each state in which its
  -- program leaves the disk if it is killed: who comes next finds what a call that answered 60 may leave, and so that is its event.
  pub data Calls : Owner D → List DiskState → EventOf of_tables → (List ℕ → EventOf of_tables) → (DiskState → EventOf of_tables)
      → Owner D → Type 0 where
    -- an opening of a disk in the state in which it was left, also by a store that is used no more
    By_open : (owner : Owner D) (disk : D) (result : Result (Store D) (opening.Refused D)) (moments : List DiskState)
        → state disk ≡ state_under state owner → Opens Honest state past disk result → Honest (disk_behind result)
        → Passes state past disk (disk_behind result) moments
        → Calls owner moments (Opening moments (state (disk_behind result)) (open_ending_of texts result))
        (λ image. Opening moments (state (disk_behind result)) (OpenCut image)) (λ now. Opening moments now Unread) (owner_behind state result)
    By_commit : (old new : Store D) (name : List ℕ) (stamp : ℕ) (request : Request Command) (result : Result ℕ Fault)
        → (moments : List DiskState) → Commits Honest Works state past faults writes syncs old name stamp request new result
        → Honest (disk_of new) → Passes state past (disk_of old) (disk_of new) moments
        → Calls (Has old) moments (Commit (for_table name request) moments (state (disk_of new)) (ending_of result))
        (λ image. Commit (for_table name request) moments (state (disk_of new)) (Cut image))
        (λ now. Commit (for_table name request) moments now Failed) (Has new)
    By_tick : (old new : Store D) (result : Result Tick Fault) (moments : List DiskState)
        → Steps Honest Works state past faults old result new → Honest (disk_of new)
        → Passes state past (disk_of old) (disk_of new) moments
        → Calls (Has old) moments (schedule.Tick moments (state (disk_of new)) (ending_of result))
        (λ image. schedule.Tick moments (state (disk_of new)) (Cut image)) (λ now. schedule.Tick moments now Failed) (Has new)
    By_checkpoint : (old new : Store D) (result : Result (Unit {0}) Fault) (moments : List DiskState)
        → Steps Honest Works state past faults old result new → Honest (disk_of new)
        → Passes state past (disk_of old) (disk_of new) moments
        → Calls (Has old) moments (schedule.Tick moments (state (disk_of new)) (ending_of result))
        (λ image. schedule.Tick moments (state (disk_of new)) (Cut image)) (λ now. schedule.Tick moments now Failed) (Has new)

  -- A call returns; or a stop within it or between calls leaves a file, in which nothing is unsynced; or its program is killed
  -- within it while the machine goes on. A program that ends between two calls makes no event, and so does one that is killed there
  -- or before a call's first write or sync is done.
  pub data Makes : Owner D → EventOf of_tables → Owner D → Type 0 where
    Returns : (owner then : Owner D) (moments : List DiskState) (ends : EventOf of_tables) (cut : List ℕ → EventOf of_tables)
        → (killed : DiskState → EventOf of_tables) → Calls owner moments ends cut killed then → Makes owner ends then
    Is_cut : (owner then : Owner D) (moments : List DiskState) (ends : EventOf of_tables) (cut : List ℕ → EventOf of_tables)
        → (killed : DiskState → EventOf of_tables) (image : List ℕ) → Calls owner moments ends cut killed then
        → IsImageOfOne moments image → Makes owner (cut image) (Lies (settled_state image))
    Is_killed : (owner then : Owner D) (moments : List DiskState) (ends : EventOf of_tables) (cut : List ℕ → EventOf of_tables)
        → (killed : DiskState → EventOf of_tables) (now : DiskState) → Calls owner moments ends cut killed then
        → IsLeftIn moments now → Makes owner (killed now) (Left now)
    Stops : (owner : Owner D) (image : List ℕ) → IsImage (state_under state owner) image
        → Makes owner (Stop image) (Lies (settled_state image))

  pub data Session : Owner D → List (EventOf of_tables) → Owner D → Type 0 where
    Ended : (owner : Owner D) → Session owner [] owner
    Goes_on : (old between new : Owner D) (one : EventOf of_tables) (events : List (EventOf of_tables))
        → Makes old one between → Session between events new → Session old (one ∷ events) new

  -- A session is a schedule, and so it is safe: each image that a stop may leave keeps the tables of the requests that were
  -- acknowledged or, where one is pending, those with it; a store that isn't broken holds just the former. And where the file is
  -- opened then, it isn't turned away.
  pub record IsSafeSession (kit : Kit) (first : World) (start : DiskState) (events : List (EventOf of_tables)) (last : Owner D) : Type 0 where
    pub system : SystemOf of_tables
    pub runs : Runs of_tables (in_words texts first) (at_first of_tables start) events system
    pub disk : system.disk ≡ state_under state last
    pub holder : IsHolder texts last system.holder
    pub safe : IsSafe texts kit first system
    pub opens : (disk : D) (refused : opening.Refused D) → state disk ≡ state_under state last
        → Opens Honest state past disk (Err refused) → Honest refused.disk → IsNoVerdict refused.fault

-- so each session is, of a file that keeps tables of a right kit, as a new one keeps none
abbrev pub SessionsAreSafe : {D : Type 0} → (Honest Works : D → Type 0) → (state : D → DiskState) → (past : D → List DiskState)
    → (faults writes syncs : D → ℕ) → Type 0
SessionsAreSafe {D} Honest Works state past faults writes syncs =
    (texts : KitTexts) (kit : Kit) (first : World) (start : DiskState) (events : List (EventOf of_tables)) (last : Owner D)
    → SpellsKit texts kit → AreTablesOf kit first → EachImage start (KeepsTables texts first)
    → Session Honest Works state past faults writes syncs texts (Lies start) events last
    → IsSafeSession Honest Works state past faults writes syncs texts kit first start events last

-- a write that was made in part leaves the disk on the way to the whole write
abbrev pub PartsOfWritesAreLeft : Type 0
PartsOfWritesAreLeft =
    (old : DiskState) (at upto : ℕ) (front bytes : List ℕ) → upto ≤ length bytes
    → IsLeftIn (after_write old at bytes ∷ []) (after_failed_write old at upto front)

-- An example: an opening of a file that keeps tables of a right kit, where it answers with a store, and a request behind it.
abbrev pub OpeningsAndRequestsAreSessions : {D : Type 0} → (Honest Works : D → Type 0) → (state : D → DiskState) → (past : D → List DiskState)
    → (faults writes syncs : D → ℕ) → Type 0
OpeningsAndRequestsAreSessions {D} Honest Works state past faults writes syncs =
    (disk : D) (opened last : Store D) (name : List ℕ) (stamp : ℕ) (request : Request Command) (result : Result ℕ Fault)
    → Opens Honest state past disk (Ok opened)
    → Commits Honest Works state past faults writes syncs opened name stamp request last result → Honest (disk_of last)
    → (texts : KitTexts) (kit : Kit) (tables : World) → SpellsKit texts kit → AreTablesOf kit tables
    → KeepsTables texts tables (state disk).content
    → (events : List (EventOf of_tables))
    × Session Honest Works state past faults writes syncs texts (Lies (state disk)) events (Has last)
