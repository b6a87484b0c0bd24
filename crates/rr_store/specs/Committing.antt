-- What a commit does to a store.
use Rattle.std.specs.Prelude.{◌≡◌, None, ◌⊎◌, ◌↔◌, ℕ, ◌+◌, ◌≤◌, false, List, Option, Some, Result, Ok, Err, IsErrOf, IsTrue, OnErr, OnOk, length}
use Rattle.rr_disk.specs.Disk.{DiskState}
use Rattle.rr_disk.specs.Moments.{EachImage, LeavesOnly}
use Rattle.rr_code.specs.declared.command.Command.{Command}
use Rattle.rr_code.specs.Request.{record_text}
use Rattle.rr_images.specs.Calls.{TakesNewer}
use Rattle.rr_images.specs.Layout.{Layout}
use Rattle.rr_images.specs.Steps.{with_line}
use Rattle.rr_log.specs.Growing.{Grows, TakesPages}
use Rattle.rr_log.specs.PuttingOff.{BeginsIfDue}
use Rattle.rr_turns.specs.declared.request.Request.{Request}
use Rattle.rr_turns.specs.Judgement.{IsVerdict}
use Rattle.rr_kit.specs.Kits.{KitTexts}
use Rattle.rr_tables.specs.Records.Headline.{KeepsTablesOr}
use Rattle.rr_tables.specs.Records.Taking.{table_files}
use Rattle.rr_tables.specs.Records.Words.{in_words}
use Rattle.rr_store.specs.declared.fault.Fault.{Fault}
use Rattle.rr_store.specs.declared.fault.Fault.TheVariants as F
use Rattle.rr_store.specs.declared.store.Store.{Store}
use Rattle.rr_store.specs.Allowing.{Between, CommitAllows}
use Rattle.rr_store.specs.Fault.{CountsEnd, OnDeviceFault}
use Rattle.rr_store.specs.Held.{Held, Takes, stamp_after, with_failure}
use Rattle.rr_store.specs.Holding.{Carries, GamesArePlayed, GamesHaveSnapshots, HasNoRoom, IsFull, IsFullFor, IsUnchanged, Rests, disk_of, file_of, held_of, lent_of, number_of_next, put_off_of, replayed_of, ticks_left}
use Rattle.rr_store.specs.Keeping.{ComesOn, GrowsInAll, MakesAtMost, length_on}
use Rattle.rr_store.specs.Named.{KeepsNames, LendsNamed, NamesComing, NamesRoots, NamesSnapshots}
use Rattle.rr_store.specs.Seeing.{IsJudgedBy, IsSeenAt, IsToldPlainly, Seen, judgement_at, plain_verdict}
use Rattle.rr_store.specs.World.{for_table, judgement_in}
use Rattle.rr_reading.specs.Worlds.World as words

-- the number of the next record: one more behind a request that was taken; where the device failed it isn't known
abbrev pub NumberBehind : Result ℕ Fault → ℕ → ℕ → Type 0
NumberBehind (Ok _) old new = new ≡ old + 1
NumberBehind (Err F.DeviceFailed) old new = Unit {0}
NumberBehind (Err fault) old new = new ≡ old

-- the layout of the file behind a request: with its record, which leads to this world, where it was taken
abbrev pub layout_behind : Result ℕ Fault → Layout table_files → List ℕ → words.World → Layout table_files
layout_behind (Ok _) layout record_of world = with_line layout record_of world
layout_behind (Err _) layout record_of world = layout

-- a refusal by the rules, or of a store that is broken, leaves all as it was; where the file is full or memory was wanted,
-- steps of a checkpoint may have been made
abbrev pub Spares : {D : Type 0} → Store D → Result ℕ Fault → Store D → Type 0
Spares old (Ok _) new = Unit {0}
Spares old (Err F.DeviceFailed) new = Unit {0}
Spares old (Err F.FileFull) new = Unit {0}
Spares old (Err F.OutOfMemory) new = Unit {0}
Spares old (Err fault) new = IsUnchanged old new

-- What a store holds behind a request, whatever was played: the kit stays; a request that is refused changes no table; the store
-- is broken from then on where the device failed, and only there; and a request that was taken raises its table's stamp by one.
abbrev pub HoldsBehind : Held → List ℕ → Request Command → Result ℕ Fault → Held → Type 0
HoldsBehind old name request (Ok stamp) new =
    (new.kit ≡ old.kit) × (new.broken ≡ old.broken) × (stamp ≡ stamp_after old.kit old.tables name request)
HoldsBehind old name request (Err F.DeviceFailed) new = new ≡ with_failure old
HoldsBehind old name request (Err fault) new = new ≡ old

-- What a commit does, by its result: of every disk, where nothing else is said.
pub record Commits {D : Type 0} (Honest Works : D → Type 0) (state : D → DiskState) (past : D → List DiskState) (faults writes syncs : D → ℕ)
    (old : Store D) (name : List ℕ) (stamp : ℕ) (request : Request Command) (new : Store D) (result : Result ℕ Fault) : Type 0 where
  -- what a store of played tables holds then; they are played, and have their snapshots if they had them
  pub takes : GamesArePlayed old → Takes (held_of old) stamp name request (held_of new) result
  pub played : GamesArePlayed old → GamesArePlayed new
  pub snapshots : GamesArePlayed old → GamesHaveSnapshots old → GamesHaveSnapshots new
  -- Whatever was played: the result is as the rules say of each book for which the position in memory stands; what the checks
  -- say that look at no position; and what is held then.
  pub judged : (seen : Option Seen) → IsSeenAt old name seen
      → IsJudgedBy (judgement_at (held_of old).kit seen (length (held_of old).tables) stamp request) request result
  pub plain : IsToldPlainly (plain_verdict (held_of old).tables stamp name request) result
  pub holds : HoldsBehind (held_of old) name request result (held_of new)
  -- a store that is broken answers so, and no other
  pub again : IsErrOf result F.OpenAgain ↔ IsTrue (held_of old).broken
  pub honest : Honest (disk_of new) → Honest (disk_of old)
  -- on an honest disk that carries what was held: what it passed through; that each file which a stop leaves keeps what was
  -- held or, of a lawful request, that with it; and that the disk carries what is held now
  pub allowed : Honest (disk_of new) → (texts : KitTexts) → Carries state old texts
      → Between (past (disk_of old)) (state (disk_of old)) (past (disk_of new)) (state (disk_of new))
      (λ moments. CommitAllows texts (held_of old).kit (held_of old).tables stamp (for_table name request) (state (disk_of old)) moments (state (disk_of new)) result)
  pub keeps : Honest (disk_of new) → (texts : KitTexts) → Carries state old texts
      → LeavesOnly (past (disk_of old)) (state (disk_of old)) (past (disk_of new)) (state (disk_of new))
      (KeepsTablesOr texts (held_of old).kit (held_of old).tables (Some (for_table name request)))
  pub carries : Honest (disk_of new) → (held_of new).broken ≡ false → (texts : KitTexts) → Carries state old texts → Carries state new texts
  -- behind the last step of a checkpoint, where no other is begun, each file that a stop may leave takes a newer root, whose
  -- chains spell the world as the checkpoint began; only the records since then stand behind it
  pub renews : (held_of new).broken ≡ false → ticks_left old ≡ 1 → ticks_left new ≡ 0 → Honest (disk_of new) → (texts : KitTexts) → (carries : Carries state old texts)
      → EachImage (state (disk_of new)) (TakesNewer table_files
      (layout_behind result carries.file.carried.layout (record_text name request) (in_words texts (held_of new).tables)) (in_words texts (held_of new).tables))
  -- roots that have just the snapshots that their tables are to have stay so, and so does the one that is coming, if what is
  -- lent to a checkpoint that begins is so; behind the last step of one the root is so that was coming
  pub names : Honest (disk_of new) → (held_of new).broken ≡ false → (texts : KitTexts) → Carries state old texts
      → ((ticks_left old ≡ 0) ⊎ IsFull old name request → LendsNamed old) → KeepsNames state old new texts
  pub renews_names : Honest (disk_of new) → (held_of new).broken ≡ false → ticks_left old ≡ 1 → ticks_left new ≡ 0 → (texts : KitTexts)
      → Carries state old texts → NamesComing state old texts → NamesRoots state new texts
  -- and of such roots a stop at any moment leaves a file whose root is so, whether the call returns or not
  pub names_stops : Honest (disk_of new) → (texts : KitTexts) → Carries state old texts
      → ((ticks_left old ≡ 0) ⊎ IsFull old name request → LendsNamed old) → NamesRoots state old texts
      → LeavesOnly (past (disk_of old)) (state (disk_of old)) (past (disk_of new)) (state (disk_of new)) (NamesSnapshots (held_of old).kit)
  -- the number of the next record
  pub number : NumberBehind result (number_of_next old) (number_of_next new)
  -- a refusal by the rules changes nothing; nor does want of memory, unless behind the call the half in use has no room for the
  -- request's record, and the request is lawful where the tables were played: so no record that has room is refused for want of
  -- a checkpoint's memory
  pub spares : Spares old result new
  pub wanting : result ≡ Err F.OutOfMemory → IsUnchanged old new
      ⊎ ((GamesArePlayed old → IsVerdict (judgement_in (held_of old).kit (held_of old).tables stamp name request) None) × HasNoRoom new name request)
  -- a device fault is told exactly where the disk counts one
  pub counts : CountsEnd (faults (disk_of old)) (faults (disk_of new)) result
  pub works : Works (disk_of new) → Works (disk_of old)
  -- where the half in use had room for the record, and there was a number for it, three writes and three syncs are made at
  -- most, and two of each where no checkpoint was under way or to begin
  pub few_writes : (IsFull old name request → ⊥) → writes (disk_of new) ≤ writes (disk_of old) + 3
  pub few_syncs : (IsFull old name request → ⊥) → syncs (disk_of new) ≤ syncs (disk_of old) + 3
  pub own_writes : (IsFull old name request → ⊥) → Rests old → writes (disk_of new) ≤ writes (disk_of old) + 2
  pub own_syncs : (IsFull old name request → ⊥) → Rests old → syncs (disk_of new) ≤ syncs (disk_of old) + 2
  -- whatever is to be done, three of each are made at most, and one for each step left of the checkpoint under way, or of one
  -- begun then
  pub most_writes : MakesAtMost writes (lent_of old) (file_of old) (file_of new)
  pub most_syncs : MakesAtMost syncs (lent_of old) (file_of old) (file_of new)
  -- if the request was taken, with such room and number, a checkpoint under way came on by a step; else none is begun, or one
  -- that has four steps left at least, or three where the opening found it begun; and none where none was to begin
  pub comes_on : OnOk result ((IsFull old name request → ⊥) → ComesOn (file_of old) (file_of new))
  -- if it was taken without room, its record stands behind the first step of a checkpoint, which has four left at least
  pub makes_room : OnOk result (HasNoRoom old name request → 4 ≤ ticks_left new)
  -- with a record that was kept, if a checkpoint was due and none was under way, one is under way now, or its first step was put
  -- off for the reason that is told: the file was full, or memory was refused; nothing else is put off; and a refusal leaves what
  -- is told
  pub begins_due : OnOk result (BeginsIfDue (file_of old) (file_of new) (lent_of old) (put_off_of new))
  pub put_off : OnErr result (put_off_of new ≡ put_off_of old)
  -- the file becomes longer only where no page under its end is free: where the half had room, as by one step of a checkpoint,
  -- and whatever is to be done, as `GrowsInAll` says
  pub grows : (IsFull old name request → ⊥) → Honest (disk_of new) → (texts : KitTexts) → Carries state old texts
      → Grows (length_on state) (file_of old) (file_of new)
  pub pages : (IsFull old name request → ⊥) → TakesPages (file_of old) (file_of new)
  pub grows_in_all : Honest (disk_of new) → (texts : KitTexts) → Carries state old texts → GrowsInAll state (file_of old) (file_of new)
  -- what the opening played stays told
  pub replayed : replayed_of new ≡ replayed_of old
  -- the file is told to be full only where no checkpoint makes room for the request's record: it takes more than eight slots, or
  -- behind the call its number would be past the last, or the half in use has no room for it and a checkpoint finds too few free
  -- pages or no number for its root
  pub full : result ≡ Err F.FileFull → IsFullFor new (lent_of old) name request
  -- an honest disk that works, and carries what was held, is never told to have failed
  pub device : OnDeviceFault result (Honest (disk_of new) → (texts : KitTexts) → Carries state old texts → Works (disk_of new) → ⊥)
