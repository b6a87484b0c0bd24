-- Sessions on a new file are sound, and a session goes on behind another one, whatever the types of their disks are: a program may
-- end or be killed, or the machine may stop, and another program is started on what is left.
use Rattle.std.specs.Prelude.{◌≡◌, ℕ, List, [], ◌++◌, false}
use Rattle.rr_disk.specs.Disk.{DiskState}
use Rattle.rr_disk.specs.Moments.{EachImage}
use Rattle.rr_kit.specs.declared.kit.Kit.{Kit}
use Rattle.rr_kit.specs.Kits.{KitTexts, SpellsKit}
use Rattle.rr_tables.specs.Records.Headline.{KeepsTables}
use Rattle.rr_tables.specs.Records.Schedules.{of_tables}
use Rattle.rr_tables.specs.Records.World.{World}
use Rattle.rr_images.specs.Schedules.Schedule.{EventOf}
use Rattle.rr_store.specs.Files.{AreTablesOf}
use Rattle.rr_store.specs.Holding.{disk_of, held_of}
use Rattle.rr_store.specs.Sessions.{Has, IsSafeSession, Left, Lies, Owner, Session, state_under}
use Rattle.rr_world_laws.specs.Worlds.{IsSafeAndSound, IsSoundWorld}

-- a file keeps tables that are sound
abbrev pub KeepsSoundTables : KitTexts → Kit → List ℕ → Type 0
KeepsSoundTables texts kit image = (tables : World) × KeepsTables texts tables image × IsSoundWorld kit tables

-- what a store holds is sound, unless the device failed
abbrev pub HoldsSoundTables : {D : Type 0} → Kit → Owner D → Type 0
HoldsSoundTables kit (Lies now) = Unit {0}
HoldsSoundTables kit (Left now) = Unit {0}
HoldsSoundTables kit (Has store) = (held_of store).broken ≡ false → IsSoundWorld kit (held_of store).tables

module _ {D : Type 0} (Honest Works : D → Type 0) (state : D → DiskState) (past : D → List DiskState) (faults writes syncs : D → ℕ)
    (texts : KitTexts) where
  -- A session on a new file is safe and sound: so is each world that a stop may leave, and what a store holds at its end.
  pub record IsSoundSession (kit : Kit) (start : DiskState) (events : List (EventOf of_tables)) (last : Owner D) : Type 0 where
    pub safe : IsSafeSession Honest Works state past faults writes syncs texts kit [] start events last
    pub sound : IsSafeAndSound texts kit safe.system
    pub left : EachImage (state_under state last) (KeepsSoundTables texts kit)
    pub held : HoldsSoundTables kit last

-- so each session is, on a disk each image of which is a new file with the texts of a right kit
abbrev pub SessionsAreSound : {D : Type 0} → (Honest Works : D → Type 0) → (state : D → DiskState) → (past : D → List DiskState)
    → (faults writes syncs : D → ℕ) → Type 0
SessionsAreSound {D} Honest Works state past faults writes syncs =
    (texts : KitTexts) (kit : Kit) (start : DiskState) (events : List (EventOf of_tables)) (last : Owner D)
    → SpellsKit texts kit → EachImage start (KeepsTables texts [])
    → Session Honest Works state past faults writes syncs texts (Lies start) events last
    → IsSoundSession Honest Works state past faults writes syncs texts kit start events last

-- What is left to a program that is started then, over a disk of another type: the state of the first one's disk, whether or not
-- all of it was synced. Where a program had a store, and ended or was killed between two calls, nobody has the disk any more.
abbrev pub left_by : {D E : Type 0} → (D → DiskState) → Owner D → Owner E
left_by state (Lies now) = Lies now
left_by state (Left now) = Left now
left_by state (Has store) = Left (state (disk_of store))

-- Behind these events, and from what they left, a session on a disk of any type goes on: the events of both, one behind the other,
-- are one safe schedule from the first tables.
abbrev pub GoesOnBehind : {E : Type 0} → (Honest Works : E → Type 0) → (state : E → DiskState) → (past : E → List DiskState)
    → (faults writes syncs : E → ℕ) → KitTexts → Kit → World → DiskState → List (EventOf of_tables) → Owner E → Type 0
GoesOnBehind {E} Honest Works state past faults writes syncs texts kit first start events from =
    (more : List (EventOf of_tables)) (last : Owner E)
    → Session Honest Works state past faults writes syncs texts from more last
    → IsSafeSession Honest Works state past faults writes syncs texts kit first start (events ++ more) last

module _ {D : Type 0} (Honest Works : D → Type 0) (state : D → DiskState) (past : D → List DiskState) (faults writes syncs : D → ℕ)
    {E : Type 0} (Honest_then Works_then : E → Type 0) (state_then : E → DiskState) (past_then : E → List DiskState)
    (faults_then writes_then syncs_then : E → ℕ) where
  -- so it is behind a session on a disk of another type, however that ended
  abbrev pub SessionsGoOn : Type 0
  SessionsGoOn =
      (texts : KitTexts) (kit : Kit) (first : World) (start : DiskState) (events : List (EventOf of_tables)) (last : Owner D)
      → SpellsKit texts kit → AreTablesOf kit first → EachImage start (KeepsTables texts first)
      → Session Honest Works state past faults writes syncs texts (Lies start) events last
      → GoesOnBehind Honest_then Works_then state_then past_then faults_then writes_then syncs_then texts kit first start events (left_by state last)

  -- and behind all that went on so before, however many sessions these were
  abbrev pub SafeSessionsGoOn : Type 0
  SafeSessionsGoOn =
      (texts : KitTexts) (kit : Kit) (first : World) (start : DiskState) (events : List (EventOf of_tables)) (last : Owner D)
      → SpellsKit texts kit → AreTablesOf kit first → EachImage start (KeepsTables texts first)
      → IsSafeSession Honest Works state past faults writes syncs texts kit first start events last
      → GoesOnBehind Honest_then Works_then state_then past_then faults_then writes_then syncs_then texts kit first start events (left_by state last)

  -- And what goes on so behind sessions on a new file is sound.
  abbrev pub SoundSessionsGoOn : Type 0
  SoundSessionsGoOn =
      (texts : KitTexts) (kit : Kit) (start : DiskState) (events more : List (EventOf of_tables)) (last : Owner D) (last_then : Owner E)
      → EachImage start (KeepsTables texts []) → SpellsKit texts kit
      → IsSafeSession Honest Works state past faults writes syncs texts kit [] start events last
      → Session Honest_then Works_then state_then past_then faults_then writes_then syncs_then texts (left_by state last) more last_then
      → IsSoundSession Honest_then Works_then state_then past_then faults_then writes_then syncs_then texts kit start (events ++ more) last_then
