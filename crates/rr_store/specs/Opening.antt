-- What an opening may do to a disk, and when it refuses its file.
use Rattle.std.specs.Prelude.{◌≡◌, ◌⊎◌, ℕ, List, [], ◌∷◌, Result, Ok, Err}
use Rattle.rr_disk.specs.Disk.{DiskState, after_sync}
use Rattle.rr_disk.specs.Moments.{SyncsOnce}
use Rattle.rr_kit.specs.Kits.{KitTexts}
use Rattle.rr_log.specs.Opening.Opened.{held_by}
use Rattle.rr_log.specs.Opening.Syncing.{WasSynced}
use Rattle.rr_pages.specs.Choosing.{IsNoStore}
use Rattle.rr_pages.specs.declared.fault.Damage.{Damage}
use Rattle.rr_reading.specs.Held.{Held}
use Rattle.rr_reading.specs.Reading as reading
use Rattle.rr_reading.specs.Reading.{HasRoot, Holds}
use Rattle.rr_store.specs.Recovery.Recovered.{IsRecoveredFrom}
use Rattle.rr_store.specs.Recovery.Telling as recovery
use Rattle.rr_store.specs.declared.fault.Fault.{Fault}
use Rattle.rr_store.specs.declared.fault.Fault.TheVariants as F
use Rattle.rr_store.specs.declared.found.Found.{Found}
use Rattle.rr_store.specs.Allowing.{Keeps}
use Rattle.rr_store.specs.Files.{StandsFor}
use Rattle.rr_store.specs.World.{World}

-- the bytes break no clause, and this one, 5 to 8, is the least that they break by the rules of the game, where the snapshots
-- show the games that the commands play
pub record BreaksRules (file : List ℕ) (damage : Damage) : Type 0 where
  pub has : Held
  pub holds : Holds file has
  pub broken : recovery.IsDamage has damage

-- this clause is the least that the file breaks: one of its form, 1 to 5, or one of the rules
abbrev pub IsDamagedFile : List ℕ → Damage → Type 0
IsDamagedFile file damage = reading.IsDamage file damage ⊎ BreaksRules file damage

-- why a file isn't opened. The device may fail at any file, and memory is wanted only where a root is taken
abbrev pub Refuses : List ℕ → Fault → Type 0
Refuses file F.DeviceFailed = Unit {0}
Refuses file F.OutOfMemory = HasRoot file
Refuses file F.NotAStore = IsNoStore file
Refuses file (F.Damaged damage) = IsDamagedFile file damage
Refuses file _ = ⊥

-- the device failed, or memory was wanted
abbrev pub IsNoVerdict : Fault → Type 0
IsNoVerdict fault = (fault ≡ F.DeviceFailed) ⊎ (fault ≡ F.OutOfMemory)

-- a sync at most, and no write
abbrev pub SyncsAtMost : DiskState → List DiskState → Type 0
SyncsAtMost old moments = (moments ≡ []) ⊎ (moments ≡ after_sync old ∷ [])

-- the sync of an opening that is refused: it was made, unless the device failed; then it may be the sync that did
abbrev pub SyncsFirst : Fault → DiskState → List DiskState → Type 0
SyncsFirst F.DeviceFailed old moments = SyncsAtMost old moments
SyncsFirst _ old moments = moments ≡ after_sync old ∷ []

-- texts and a world were found: the file stands for no others, and keeps standing for them
pub record IsOnlyWorld (old new : DiskState) (found : KitTexts × World) (texts : KitTexts) (tables : World) : Type 0 where
  pub same : found ≡ (texts, tables)
  pub keeps : Keeps new texts tables

-- each snapshot of the file shows the game that the commands before it play
abbrev pub ShowsGamesAsPlayed : List ℕ → Type 0
ShowsGamesAsPlayed file = (has : Held) → Holds file has → recovery.HasTrueSnapshots has

-- What an opening may do, and what it may answer, behind a sync: texts and a world, where a root is taken, which are those
-- for which the file stands if it stands for any, as it does where its snapshots show the games as they were played (an
-- opening trusts them, and a file with others stands for none); or why it stands for none, or that memory was wanted. Or the
-- device failed, at the sync or behind it.
abbrev pub OpenAllows : DiskState → List DiskState → DiskState → Result (KitTexts × World) Fault → Type 0
OpenAllows old moments new (Ok found) =
    (moments ≡ after_sync old ∷ []) × HasRoot old.content
    × ((texts : KitTexts) (tables : World) → StandsFor old.content texts tables → IsOnlyWorld old new found texts tables)
    × (ShowsGamesAsPlayed old.content → StandsFor old.content found.0 found.1)
OpenAllows old moments new (Err fault) = SyncsFirst fault old moments × Refuses old.content fault

-- what the disk went through then
abbrev pub IsSyncedFirst : Fault → List DiskState → DiskState → List DiskState → DiskState → Type 0
IsSyncedFirst F.DeviceFailed past_old old past_new new = SyncsOnce past_old old past_new new
IsSyncedFirst _ past_old old past_new new = WasSynced past_old old past_new new

-- what was found is what the file holds, and what is recovered of that
pub record IsFound (file : List ℕ) (found : Found) : Type 0 where
  pub holds : Holds file (held_by file found.opened)
  pub recovered : IsRecoveredFrom (held_by file found.opened) found.recovered
