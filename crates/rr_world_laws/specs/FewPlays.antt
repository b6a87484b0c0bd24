-- Histories of a file, with stops between calls and within them, and how few commands each opening of it plays.
use Rattle.std.specs.Prelude.{◌≡◌, ℕ, List, false, Result, Ok}
use Rattle.rr_checkpoint.specs.declared.writer.Tick.{Tick}
use Rattle.rr_code.specs.declared.command.Command.{Command}
use Rattle.rr_disk.specs.Disk.{DiskState, IsImage}
use Rattle.rr_disk.specs.Moments.{EachImage}
use Rattle.rr_images.specs.Schedules.Schedule.{IsImageOfOne}
use Rattle.rr_kit.specs.declared.kit.Kit.{Kit}
use Rattle.rr_kit.specs.Kits.{KitTexts, SpellsKit}
use Rattle.rr_tables.specs.Records.Headline.{KeepsTables}
use Rattle.rr_tables.specs.Records.World.{World}
use Rattle.rr_turns.specs.declared.request.Request.{Request}
use Rattle.rr_store.specs.declared.fault.Fault.{Fault}
use Rattle.rr_store.specs.declared.store.Store.{Store}
use Rattle.rr_reading.specs.declared.dir.version.Version.{Version}
use Rattle.rr_store.specs.Allowing.{FormatAllowsAs}
use Rattle.rr_store.specs.Committing.{Commits}
use Rattle.rr_store.specs.declared.opening.Refused as opening
use Rattle.rr_store.specs.Events.{Opens, Passes, disk_behind}
use Rattle.rr_store.specs.Files.{AreTablesOf, IsNewStore, StandsFor}
use Rattle.rr_store.specs.Holding.{GamesHaveSnapshots, disk_of, held_of, replayed_of}
use Rattle.rr_store.specs.Named.{NamesRoots, NamesSnapshots, PlaysFew, SnapshotsAreShort}
use Rattle.rr_store.specs.Replayed.{ReplaysFile}
use Rattle.rr_store.specs.Ticking.{Steps}
use Rattle.rr_world_laws.specs.Programs.{Programs}

-- whatever the kit, no snapshot of tables that were played by its rules has more bytes than a file takes
abbrev pub KitsHaveShortSnapshots : Type 0
KitsHaveShortSnapshots = (kit : Kit) → SnapshotsAreShort kit

-- What an opening's contract says of its store's snapshots and roots, and of what was played: each table has its snapshots;
-- where the file's root names just those of its tables, so does the store's; and so many commands were played as are told.
pub record OpensNamed {D : Type 0} (Honest : D → Type 0) (state : D → DiskState) (disk : D) (store : Store D) : Type 0 where
  pub snapshots : Honest (disk_of store) → (texts : KitTexts) (tables : World)
      → StandsFor (state disk).content texts tables → GamesHaveSnapshots store
  pub names : Honest (disk_of store) → (texts : KitTexts)
      → KeepsTables texts (held_of store).tables (state disk).content → SnapshotsAreShort (held_of store).kit
      → NamesSnapshots (held_of store).kit (state disk).content → NamesRoots state store texts
  pub replayed : Honest (disk_of store) → (texts : KitTexts) (tables : World)
      → StandsFor (state disk).content texts tables → ReplaysFile (state disk).content (held_of store).kit (replayed_of store)

-- The file keeps tables of the kit that its texts spell, and its root has of each table in it just the snapshots that it is to
-- have.
pub record KeepsNamed (texts : KitTexts) (file : List ℕ) : Type 0 where
  pub kit : Kit
  pub right : SpellsKit texts kit
  pub tables : World
  pub tables_of_kit : AreTablesOf kit tables
  pub keeps : KeepsTables texts tables file
  pub names : NamesSnapshots kit file

module _ {D : Type 0} (Honest Works : D → Type 0) (state : D → DiskState) (past : D → List DiskState) (faults writes syncs : D → ℕ) where
  -- a call on a store, whatever it answers
  pub data Call : Store D → Store D → Type 0 where
    By_commit : (old new : Store D) (name : List ℕ) (stamp : ℕ) (request : Request Command) (result : Result ℕ Fault)
        → Commits Honest Works state past faults writes syncs old name stamp request new result → Call old new
    By_tick : (old new : Store D) (result : Result Tick Fault) → Steps Honest Works state past faults old result new → Call old new
    By_checkpoint : (old new : Store D) (result : Result (Unit {0}) Fault) → Steps Honest Works state past faults old result new
        → Call old new

  -- calls on a store, one after another: each returned, whether it took or refused what was asked, and no device call failed
  pub data Returned : Store D → Store D → Type 0 where
    No_call : (store : Store D) → Returned store store
    And_then : (old between new : Store D) → Call old between → (held_of between).broken ≡ false → Returned between new
        → Returned old new

-- Each program that opens the file has a disk of its own, whose type may be its own, too.
module _ (programs : Programs) where
  -- a program opened what its disk held, and made calls on its store, each of which returned
  pub record Ran (p : programs.Program) (disk : programs.Disk p) (last : Store (programs.Disk p)) : Type 0 where
    pub store : Store (programs.Disk p)
    pub opens : Opens (programs.ghosts p).Honest (programs.ghosts p).state (programs.ghosts p).past disk (Ok store)
    pub named : OpensNamed (programs.ghosts p).Honest (programs.ghosts p).state disk store
    pub calls : Returned (programs.ghosts p).Honest (programs.ghosts p).Works (programs.ghosts p).state (programs.ghosts p).past
        (programs.ghosts p).fault_count (programs.ghosts p).write_count (programs.ghosts p).sync_count store last

  -- and then it made one more call, at these moments, which returned or whose device failed
  pub record Calls (p : programs.Program) (last new : Store (programs.Disk p)) (moments : List DiskState) : Type 0 where
    pub call : Call (programs.ghosts p).Honest (programs.ghosts p).Works (programs.ghosts p).state (programs.ghosts p).past
        (programs.ghosts p).fault_count (programs.ghosts p).write_count (programs.ghosts p).sync_count last new
    pub honest : (programs.ghosts p).Honest (disk_of new)
    pub passes : Passes (programs.ghosts p).state (programs.ghosts p).past (disk_of last) (disk_of new) moments

  -- what a read of the program's disk gives
  abbrev pub content_of : (p : programs.Program) → programs.Disk p → List ℕ
  content_of p disk = ((programs.ghosts p).state disk).content

  -- A file with a history: a new one of these texts, or one that a crash may leave of a program which opened a file with a
  -- history, after calls that all returned, or at a moment of the call after these.
  pub data History (texts : KitTexts) : List ℕ → Type 0 where
    New : (file : List ℕ) (kit : Kit) → SpellsKit texts kit → IsNewStore texts file → History texts file
    Behind : (p : programs.Program) (disk : programs.Disk p) (last : Store (programs.Disk p)) (image : List ℕ)
        → History texts (content_of p disk) → Ran p disk last
        → (programs.ghosts p).Honest (disk_of last) → IsImage ((programs.ghosts p).state (disk_of last)) image → History texts image
    Within : (p : programs.Program) (disk : programs.Disk p) (last new : Store (programs.Disk p)) (moments : List DiskState) (image : List ℕ)
        → History texts (content_of p disk) → Ran p disk last → Calls p last new moments
        → IsImageOfOne moments image → History texts image

  -- whatever a crash leaves after a formatting, of either version, is such a file
  abbrev pub HistoriesBegin : Type 0
  HistoriesBegin =
      (version : Version) (texts : KitTexts) (old new : DiskState) → FormatAllowsAs version texts old new (Ok tt) → EachImage new (History texts)

  -- and so is what the disk of such a program gives, if that just ends
  abbrev pub HistoriesGoOn : Type 0
  HistoriesGoOn =
      (texts : KitTexts) (p : programs.Program) (disk : programs.Disk p) (last : Store (programs.Disk p)) → History texts (content_of p disk) → Ran p disk last
      → (programs.ghosts p).Honest (disk_of last) → History texts (content_of p (disk_of last))

  -- also after a call that failed with its device
  abbrev pub HistoriesEnd : Type 0
  HistoriesEnd =
      (texts : KitTexts) (p : programs.Program) (disk : programs.Disk p) (last new : Store (programs.Disk p)) (moments : List DiskState)
      → History texts (content_of p disk) → Ran p disk last → Calls p last new moments → History texts (content_of p (disk_of new))

  -- and so is what a crash leaves within an opening of such a file, whether that answers with a store or not
  abbrev pub HistoriesStay : Type 0
  HistoriesStay =
      (texts : KitTexts) (p : programs.Program) (disk : programs.Disk p) (result : Result (Store (programs.Disk p)) (opening.Refused (programs.Disk p)))
      (moments : List DiskState) (image : List ℕ)
      → History texts (content_of p disk) → Opens (programs.ghosts p).Honest (programs.ghosts p).state (programs.ghosts p).past disk result
      → (programs.ghosts p).Honest (disk_behind result)
      → Passes (programs.ghosts p).state (programs.ghosts p).past disk (disk_behind result) moments → IsImageOfOne moments image → History texts image

  -- each such file keeps tables, and its root names just their snapshots
  abbrev pub HistoriesNameSnapshots : Type 0
  HistoriesNameSnapshots = (texts : KitTexts) (file : List ℕ) → History texts file → KeepsNamed texts file

  -- Each opening of such a file that answers with a store counts few commands as played: fewer in all than the spacing of
  -- snapshots for each table in the file's root, beside those of its records.
  abbrev pub HistoriesPlayFew : Type 0
  HistoriesPlayFew =
      (texts : KitTexts) (p : programs.Program) (disk : programs.Disk p) (store : Store (programs.Disk p)) → History texts (content_of p disk)
      → Opens (programs.ghosts p).Honest (programs.ghosts p).state (programs.ghosts p).past disk (Ok store)
      → OpensNamed (programs.ghosts p).Honest (programs.ghosts p).state disk store → (programs.ghosts p).Honest (disk_of store)
      → PlaysFew (content_of p disk) (held_of store).kit (replayed_of store)
