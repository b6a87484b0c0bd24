-- The headline over all schedules, and what ties the contracts of calls to it.
use Rattle.std.specs.Prelude.{◌≡◌, ◌⊎◌, ℕ, List, [], ◌∷◌, ◌++◌, None}
use Rattle.rr_disk.specs.Disk.{DiskState}
use Rattle.rr_disk.specs.Moments.{EachImage, LeavesOnly}
use Rattle.rr_images.specs.Schedules.Worlds.{Worlds, AreWorlds}
use Rattle.rr_images.specs.Schedules.Schedule.{SystemOf, EventOf, Nobody, Serving, Folds, KeepsOr, KeepsThe, Runs, MayCommit, MayTick, MayOpen, Done, Refused, Failed, Cut, TurnedAway, IsImageOfOne}

-- In a system each image keeps the world of the acknowledged commands or, where one is pending, that with it. A store
-- that serves has exactly the first, and then none is pending.
pub record IsSound (worlds : Worlds) (first : worlds.World) (system : SystemOf worlds) : Type 0 where
  pub world : worlds.World
  pub folded : Folds worlds first system.acknowledged world
  pub each : EachImage system.disk (KeepsOr worlds world system.pending)
  pub serves : (served : worlds.World) → system.holder ≡ Serving served → (served ≡ world) × (system.pending ≡ None)

-- nothing was accepted yet
abbrev pub at_first : (worlds : Worlds) → DiskState → SystemOf worlds
at_first worlds disk = record { acknowledged = []; pending = None; holder = Nobody; disk = disk }

-- Whatever events come to a disk each image of which keeps a first world, the system stays sound.
abbrev pub Prefix : Worlds → Type 0
Prefix worlds =
    AreWorlds worlds → (first : worlds.World) (disk : DiskState) (events : List (EventOf worlds))
    → (system : SystemOf worlds) → EachImage disk (KeepsThe worlds first)
    → Runs worlds first (at_first worlds disk) events system → IsSound worlds first system

-- And no opening is turned away.
abbrev pub NeverTurnedAway : Worlds → Type 0
NeverTurnedAway worlds =
    AreWorlds worlds → (first : worlds.World) (disk : DiskState) (events : List (EventOf worlds))
    → (system : SystemOf worlds) → EachImage disk (KeepsThe worlds first)
    → Runs worlds first (at_first worlds disk) events system
    → (moments : List DiskState) (now : DiskState) → MayOpen worlds system.disk moments now TurnedAway → ⊥

-- the moments of a call
abbrev pub moments_of : {past_old past_new : List DiskState} {old new : DiskState} {P : List ℕ → Type 0}
    → LeavesOnly past_old old past_new new P → List DiskState
moments_of {past_old} {past_new} {old} {new} {P} leaves = leaves.since ++ old ∷ []

-- A commit whose stops leave the world from before it, or that behind its command, is an event however it ends.
pub record CommitIsEvent (worlds : Worlds) (world next : worlds.World) (command : worlds.Command)
    (moments : List DiskState) (new : DiskState) : Type 0 where
  pub done : EachImage new (KeepsThe worlds next) → MayCommit worlds world command moments new Done
  pub refused : EachImage new (KeepsThe worlds world) → MayCommit worlds world command moments new Refused
  pub failed : MayCommit worlds world command moments new Failed
  pub cut : (image : List ℕ) → IsImageOfOne moments image → MayCommit worlds world command moments new (Cut image)

abbrev pub CommitsAreEvents : Worlds → Type 0
CommitsAreEvents worlds =
    (world next : worlds.World) (command : worlds.Command) (past_old past_new : List DiskState) (old new : DiskState)
    → worlds.Leads command world next
    → (leaves : LeavesOnly past_old old past_new new (λ image. worlds.Keeps image world ⊎ worlds.Keeps image next))
    → CommitIsEvent worlds world next command (moments_of leaves) new

-- A tick whose stops leave the world that the store serves is one, and so is a commit that was refused before it wrote.
pub record TickIsEvent (worlds : Worlds) (world : worlds.World) (moments : List DiskState)
    (new : DiskState) : Type 0 where
  pub done : MayTick worlds world moments new Done
  pub refused : MayTick worlds world moments new Refused
  pub failed : MayTick worlds world moments new Failed
  pub cut : (image : List ℕ) → IsImageOfOne moments image → MayTick worlds world moments new (Cut image)

abbrev pub TicksAreEvents : Worlds → Type 0
TicksAreEvents worlds =
    (world : worlds.World) (past_old past_new : List DiskState) (old new : DiskState)
    → (leaves : LeavesOnly past_old old past_new new (KeepsThe worlds world))
    → TickIsEvent worlds world (moments_of leaves) new

abbrev pub RefusalsAreEvents : Worlds → Type 0
RefusalsAreEvents worlds =
    (world : worlds.World) (command : worlds.Command) (past_old past_new : List DiskState) (old new : DiskState)
    → (leaves : LeavesOnly past_old old past_new new (KeepsThe worlds world))
    → MayCommit worlds world command (moments_of leaves) new Refused
    × MayCommit worlds world command (moments_of leaves) new Failed
