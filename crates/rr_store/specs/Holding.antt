-- What a store holds, and what is known of it between two calls.
use Rattle.std.specs.Prelude.{◌≡◌, ◌⊎◌, ℕ, ◌-◌, List, Option, length}
use Rattle.rr_code.specs.declared.command.Command.{Command}
use Rattle.rr_code.specs.Request.{record_text}
use Rattle.rr_disk.specs.Disk.{DiskState}
use Rattle.rr_kit.specs.Kits.{KitTexts, SpellsKit}
use Rattle.rr_log.specs.declared.keeping.PutOff.{PutOff}
use Rattle.rr_log.specs.declared.log.Log.{Log}
use Rattle.rr_log.specs.Calls.{MeetsFullFile}
use Rattle.rr_log.specs.Carrying as file
use Rattle.rr_log.specs.Log as log
use Rattle.rr_pages.specs.declared.free_pages.FreePages.{FreePages}
use Rattle.rr_tables.specs.declared.records.rules.TableRules.{TableRules}
use Rattle.rr_tables.specs.Records.Taking.{table_rules}
use Rattle.rr_tables.specs.Records.Words.{in_words}
use Rattle.rr_log.specs.Lent.{Lent}
use Rattle.rr_tables.specs.Tables.{ArePlayed, HaveTheirSnapshots, lent_by, world_of}
use Rattle.rr_turns.specs.declared.request.Request.{Request}
use Rattle.rr_store.specs.declared.store.Store.{Store}
use Rattle.rr_store.specs.Files.{AreTablesOf}
use Rattle.rr_store.specs.Held.{Held}
use Rattle.rr_store.specs.Keeping as keeping

-- its open file
abbrev pub file_of : {D : Type 0} → Store D → Log D TableRules
file_of store = store.journal.file

-- the disk on which the file stands
abbrev pub disk_of : {D : Type 0} → Store D → D
disk_of store = log.disk_of store.journal.file

abbrev pub held_of : {D : Type 0} → Store D → Held
held_of store = record { kit = store.tables.kit; tables = world_of store.tables; broken = log.is_broken store.journal.file }

-- how many commands its opening played
abbrev pub replayed_of : {D : Type 0} → Store D → ℕ
replayed_of store = store.replayed

-- why the first step of a checkpoint was put off with the last request that was taken
abbrev pub put_off_of : {D : Type 0} → Store D → Option PutOff
put_off_of store = store.journal.put_off

-- what it lends to a checkpoint: its tables in words, and snapshots of their games
abbrev pub lent_of : {D : Type 0} → Store D → Lent
lent_of store = lent_by store.tables

-- the number of the next record, and of the last one: 0 in a new file
abbrev pub number_of_next : {D : Type 0} → Store D → ℕ
number_of_next store = log.next_number store.journal.file

abbrev pub last_of : {D : Type 0} → Store D → ℕ
last_of store = number_of_next store - 1

-- the number of the root that is taken
abbrev pub root_of : {D : Type 0} → Store D → ℕ
root_of store = log.root_number store.journal.file

-- which pages of its file are free
abbrev pub free_of : {D : Type 0} → Store D → FreePages
free_of store = log.free_of store.journal.file

-- how many ticks the checkpoint under way has left, 0 without one
abbrev pub ticks_left : {D : Type 0} → Store D → ℕ
ticks_left store = log.ticks_left store.journal.file

-- the half in use has no room for the record of this request, or the record's number would be past the last
abbrev pub IsFull : {D : Type 0} → Store D → List ℕ → Request Command → Type 0
IsFull store name request = keeping.IsFull store.journal.file (record_text name request)

-- the half in use has no room for the record of this request
abbrev pub HasNoRoom : {D : Type 0} → Store D → List ℕ → Request Command → Type 0
HasNoRoom store name request = log.HasNoRoom (log.place_of store.journal.file) (length (record_text name request))

-- no checkpoint is under way, nor did the opening find one begun
abbrev pub HasNoneBegun : {D : Type 0} → Store D → Type 0
HasNoneBegun store = log.HasNoneBegun (log.place_of store.journal.file)

-- No checkpoint makes room for the record of this request: it takes more than eight slots, or its number would be past the last,
-- or the half in use has no room for it and a checkpoint of what is lent finds too few free pages or no number for its root.
abbrev pub IsFullFor : {D : Type 0} → Store D → Lent → List ℕ → Request Command → Type 0
IsFullFor store lent name request =
    log.IsTooLong (length (record_text name request))
    ⊎ MeetsFullFile (file_of store) lent (length (record_text name request))

-- no checkpoint is under way, and none is to begin
abbrev pub Rests : {D : Type 0} → Store D → Type 0
Rests store = keeping.Rests store.journal.file

-- each table that it holds in memory was played: its game is the play of the commands that it keeps
abbrev pub GamesArePlayed : {D : Type 0} → Store D → Type 0
GamesArePlayed store = ArePlayed store.tables

-- each table that it holds has the snapshots that the rule names, so that a take-back plays few commands
abbrev pub GamesHaveSnapshots : {D : Type 0} → Store D → Type 0
GamesHaveSnapshots store = HaveTheirSnapshots store.tables

-- Whatever a stop leaves now, the file keeps these texts of the kit and what the store holds, the open file goes on behind it, and
-- the tables in memory were played: on this a call rests, and this it carries on.
pub record Carries {D : Type 0} (state : D → DiskState) (store : Store D) (texts : KitTexts) : Type 0 where
  pub right : SpellsKit texts (held_of store).kit
  pub tables_of_kit : AreTablesOf (held_of store).kit (held_of store).tables
  pub played : GamesArePlayed store
  pub file : file.Carries table_rules (file_of store) (state (disk_of store)) (in_words texts (held_of store).tables)

-- the file, and so the disk, and what is held are as they were
pub record IsUnchanged {D : Type 0} (old new : Store D) : Type 0 where
  pub same_file : file_of new ≡ file_of old
  pub same_held : held_of new ≡ held_of old
