-- What the calls of a store may do, as events of a schedule, whatever the commands and the worlds are.
use Rattle.std.specs.Prelude.{◌≡◌, ◌⊎◌, ℕ, List, [], ◌∷◌, ◌++◌, Option, None, Some}
use Rattle.rr_disk.specs.Disk.{DiskState, IsImage}
use Rattle.rr_disk.specs.Moments.{EachImage, EachImageOf}
use Rattle.rr_disk.specs.Replay.{settled_state}
use Rattle.rr_images.specs.Schedules.Worlds.{Worlds}

-- how a commit, a tick or a checkpoint ended
pub data Ending : Type 0 where
  Done : Ending  -- Ok, whatever it answers
  Refused : Ending  -- a fault other than 60 and 65
  Failed : Ending  -- 60
  Again : Ending  -- 65
  Cut : List ℕ → Ending  -- a stop within it left this file

-- how an opening ended
pub data OpenEnding (World : Type 0) : Type 0 where
  Opened : World → OpenEnding World
  Unread : OpenEnding World  -- 60 or 70
  TurnedAway : OpenEnding World  -- any other fault
  OpenCut : List ℕ → OpenEnding World

-- Events, each with the disk states through which its call passed and with the one in which it left the disk.
pub data Event (Command World : Type 0) : Type 0 where
  Commit : Command → List DiskState → DiskState → Ending → Event Command World
  Tick : List DiskState → DiskState → Ending → Event Command World
  Opening : List DiskState → DiskState → OpenEnding World → Event Command World
  Stop : List ℕ → Event Command World

-- who holds the disk: nobody, a store that serves this world, or one that answered 60
pub data Holder (World : Type 0) : Type 0 where
  Nobody : Holder World
  Serving : World → Holder World
  Broken : Holder World

pub record System (Command World : Type 0) : Type 0 where
  pub acknowledged : List Command
  pub pending : Option Command
  pub holder : Holder World
  pub disk : DiskState

-- a stop within a call leaves an image of one of its moments
abbrev pub IsImageOfOne : List DiskState → List ℕ → Type 0
IsImageOfOne [] image = ⊥
IsImageOfOne (state ∷ states) image = IsImage state image ⊎ IsImageOfOne states image

module _ (worlds : Worlds) where
  abbrev pub EventOf : Type 0
  EventOf = Event worlds.Command worlds.World

  abbrev pub SystemOf : Type 0
  SystemOf = System worlds.Command worlds.World

  -- these commands lead from one world to another
  abbrev pub Folds : worlds.World → List worlds.Command → worlds.World → Type 0
  Folds old [] new = old ≡ new
  Folds old (command ∷ commands) new =
      (then : worlds.World) × worlds.Leads command old then × Folds then commands new

  -- a file keeps the world
  abbrev pub KeepsThe : worlds.World → List ℕ → Type 0
  KeepsThe world image = worlds.Keeps image world

  -- a file keeps the world, or that with one command more
  abbrev pub KeepsWith : worlds.World → worlds.Command → List ℕ → Type 0
  KeepsWith world command image =
      worlds.Keeps image world ⊎ ((next : worlds.World) × worlds.Leads command world next × worlds.Keeps image next)

  abbrev pub KeepsOr : worlds.World → Option worlds.Command → List ℕ → Type 0
  KeepsOr world None image = worlds.Keeps image world
  KeepsOr world (Some command) image = KeepsWith world command image

  -- What a commit may do on a store that serves a world, by its moments and by the state in which it leaves the disk.
  abbrev pub MayCommit : worlds.World → worlds.Command → List DiskState → DiskState → Ending → Type 0
  MayCommit world command moments now Done =
      EachImageOf moments (KeepsWith world command)
      × ((next : worlds.World) × worlds.Leads command world next × EachImage now (KeepsThe next))
  MayCommit world command moments now Refused =
      EachImageOf moments (KeepsWith world command) × EachImage now (KeepsThe world)
  MayCommit world command moments now Failed =
      EachImageOf moments (KeepsWith world command) × EachImage now (KeepsWith world command)
  MayCommit world command moments now Again = ⊥
  MayCommit world command moments now (Cut image) =
      EachImageOf moments (KeepsWith world command) × IsImageOfOne moments image

  -- And a tick or a checkpoint: each image keeps the world, however it ends.
  abbrev pub MayTick : worlds.World → List DiskState → DiskState → Ending → Type 0
  MayTick world moments now Done = EachImageOf moments (KeepsThe world) × EachImage now (KeepsThe world)
  MayTick world moments now Refused = EachImageOf moments (KeepsThe world) × EachImage now (KeepsThe world)
  MayTick world moments now Failed = EachImageOf moments (KeepsThe world) × EachImage now (KeepsThe world)
  MayTick world moments now Again = ⊥
  MayTick world moments now (Cut image) = EachImageOf moments (KeepsThe world) × IsImageOfOne moments image

  -- each world for which the file stands is this one
  abbrev pub StandsOnlyFor : worlds.World → List ℕ → Type 0
  StandsOnlyFor world image = (other : worlds.World) → worlds.Stands image other → other ≡ world

  -- And an opening of a disk in this state: each image since its start is one of those before it. It answers with the
  -- world for which a file stands, where it stands for one; of a file that stands for none nothing is said. It turns a
  -- file away only where that stands for none.
  abbrev pub MayOpen : DiskState → List DiskState → DiskState → OpenEnding worlds.World → Type 0
  MayOpen old moments now (Opened world) =
      EachImageOf moments (IsImage old) × ((image : List ℕ) × IsImage now image)
      × EachImage now (λ image. IsImage old image × StandsOnlyFor world image)
  MayOpen old moments now Unread = EachImageOf moments (IsImage old) × EachImage now (IsImage old)
  MayOpen old moments now TurnedAway =
      EachImageOf moments (IsImage old)
      × ((image : List ℕ) × IsImage old image × IsImage now image
      × ((world : worlds.World) → worlds.Stands image world → ⊥))
      × EachImage now (IsImage old)
  MayOpen old moments now (OpenCut image) = EachImageOf moments (IsImage old) × IsImageOfOne moments image

  -- what is so after a call
  abbrev pub held_after : Holder worlds.World → worlds.World → Ending → Holder worlds.World
  held_after old world Done = Serving world
  held_after old world Refused = old
  held_after old world Failed = Broken
  held_after old world Again = old
  held_after old world (Cut image) = Nobody

  abbrev pub disk_after : DiskState → Ending → DiskState
  disk_after now Done = now
  disk_after now Refused = now
  disk_after now Failed = now
  disk_after now Again = now
  disk_after now (Cut image) = settled_state image

  abbrev pub pending_after : worlds.Command → Ending → Option worlds.Command
  pending_after command Done = None
  pending_after command Refused = None
  pending_after command Failed = Some command
  pending_after command Again = None
  pending_after command (Cut image) = Some command

  abbrev pub acknowledged_after : List worlds.Command → worlds.Command → Ending → List worlds.Command
  acknowledged_after commands command Done = commands ++ command ∷ []
  acknowledged_after commands command Refused = commands
  acknowledged_after commands command Failed = commands
  acknowledged_after commands command Again = commands
  acknowledged_after commands command (Cut image) = commands

  abbrev pub after_commit : SystemOf → worlds.Command → worlds.World → DiskState → Ending → SystemOf
  after_commit old command held now ending =
      record {
        acknowledged = acknowledged_after old.acknowledged command ending;
        pending = pending_after command ending;
        holder = held_after old.holder held ending;
        disk = disk_after now ending;
      }

  abbrev pub after_tick : SystemOf → worlds.World → DiskState → Ending → SystemOf
  after_tick old world now ending =
      record {
        acknowledged = old.acknowledged;
        pending = old.pending;
        holder = held_after old.holder world ending;
        disk = disk_after now ending;
      }

  -- nobody holds the disk any more, and nothing else changed
  abbrev pub let_go : SystemOf → DiskState → SystemOf
  let_go old now = record { acknowledged = old.acknowledged; pending = old.pending; holder = Nobody; disk = now }

  -- An opening that answers Ok settles, by comparing worlds, whether the pending command is one of the acknowledged: it
  -- is none where the world is already that of the acknowledged ones.
  pub record Settles (first : worlds.World) (acknowledged : List worlds.Command) (world : worlds.World)
      (pending : Option worlds.Command) (settled : List worlds.Command) : Type 0 where
    pub without : Folds first acknowledged world → settled ≡ acknowledged
    pub with : (Folds first acknowledged world → ⊥) → (command : worlds.Command) → pending ≡ Some command
        → settled ≡ acknowledged ++ command ∷ []

  -- one event leads from one system to the next
  pub data Happens (first : worlds.World) (old : SystemOf) : EventOf → SystemOf → Type 0 where
    Commits : (world held : worlds.World) (command : worlds.Command) (moments : List DiskState) (now : DiskState)
        → (ending : Ending) → old.holder ≡ Serving world → MayCommit world command moments now ending
        → (ending ≡ Done → worlds.Leads command world held)
        → Happens first old (Commit command moments now ending) (after_commit old command held now ending)
    Ticks : (world : worlds.World) (moments : List DiskState) (now : DiskState) (ending : Ending)
        → old.holder ≡ Serving world → MayTick world moments now ending
        → Happens first old (Tick moments now ending) (after_tick old world now ending)
    -- a store that answered 60 answers 65, and changes nothing
    Commits_again : (command : worlds.Command) → old.holder ≡ Broken
        → Happens first old (Commit command [] old.disk Again) old
    Ticks_again : old.holder ≡ Broken → Happens first old (Tick [] old.disk Again) old
    Opens : (world : worlds.World) (moments : List DiskState) (now : DiskState) (acknowledged : List worlds.Command)
        → MayOpen old.disk moments now (Opened world) → Settles first old.acknowledged world old.pending acknowledged
        → Happens first old (Opening moments now (Opened world))
        (record { acknowledged = acknowledged; pending = None; holder = Serving world; disk = now })
    Opens_not : (moments : List DiskState) (now : DiskState) (unread : OpenEnding worlds.World)
        → unread ≡ Unread ⊎ unread ≡ TurnedAway → MayOpen old.disk moments now unread
        → Happens first old (Opening moments now unread) (let_go old now)
    Opens_cut : (moments : List DiskState) (now : DiskState) (image : List ℕ)
        → MayOpen old.disk moments now (OpenCut image)
        → Happens first old (Opening moments now (OpenCut image)) (let_go old (settled_state image))
    Stops : (image : List ℕ) → IsImage old.disk image
        → Happens first old (Stop image) (let_go old (settled_state image))

  -- a whole schedule
  pub data Runs (first : worlds.World) : SystemOf → List EventOf → SystemOf → Type 0 where
    Ended : (system : SystemOf) → Runs first system [] system
    Goes_on : (old between new : SystemOf) (event : EventOf) (events : List EventOf)
        → Happens first old event between → Runs first between events new → Runs first old (event ∷ events) new
