-- What the program writes, and how it ends.
use Rattle.std.specs.Prelude.{◌≡◌, ◌⊎◌, ◌+◌, ◌<◌, ◌≤◌, false, ℕ, List, [], length, Result, Ok, Err, codes}
use Rattle.rr_disk.specs.Disk.{DiskState, counted, counted_by}
use Rattle.rr_disk.specs.Moments.{EachImage, LeavesOnly}
use Rattle.rr_kit.specs.declared.kit.Kit.{Kit}
use Rattle.rr_kit.specs.Kits.{IsRightKit, KitTexts, SpellsKit}
use Rattle.rr_tables.specs.Records.Headline.{KeepsTables}
use Rattle.rr_serve.specs.declared.faults.Fault as serve
use Rattle.rr_serve.specs.Serving.{Session, Served as AreServed}
use Rattle.rr_serve.specs.Streams.{InputState, OutputState, CountsFailures, IsCutShort, IsSent}
use Rattle.rr_store.specs.declared.fault.Fault as store
use Rattle.rr_store.specs.declared.fault.Fault.TheVariants as T
use Rattle.rr_store.specs.Allowing.{Between, FormatAllows}
use Rattle.rr_store.specs.Fault.{CountsFailure, OnDevice}
use Rattle.rr_store.specs.Files.{AreTablesOf, StandsFor}
use Rattle.rr_store.specs.Formatting.{format_writes, RefusesFormat}
use Rattle.rr_store.specs.Holding.{Carries, GamesArePlayed}
use Rattle.rr_store.specs.Opening.{IsNoVerdict, OpenAllows, Refuses}
use Rattle.rr_store.specs.World.{World}
use Rattle.rr_moderator.specs.declared.fault.Fault.{Fault}
use Rattle.rr_moderator.specs.declared.fault.Fault.TheVariants.{StreamFailed}
use Rattle.rr_moderator.specs.declared.moderator.Moderator.{Moderator}
use Rattle.rr_moderator.specs.declared.summary.Summary.{Summary}
use Rattle.rr_moderator.specs.Answer.{summary_text}
use Rattle.rr_moderator.specs.Fault.{of_store, refusal_of}
use Rattle.rr_moderator.specs.Holding.{IsSummary, disk_under, held_of, store_of, told_of}
use Rattle.rr_moderator.specs.Durability.{Lasting, Opens, SpeaksAndLasts, StandsAlong, told}
use Rattle.rr_moderator.specs.Serving.{EndsAs}
use Rattle.rr_cli.specs.Ending.{status_of}
use Rattle.rr_cli.specs.declared.ending.Ending.{Ending}
use Rattle.rr_cli.specs.declared.ending.Ending.TheVariants.{Done, Faulted}
use Rattle.rr_cli.specs.declared.plans.Plan.{Plan}
use Rattle.rr_cli.specs.declared.plans.Plan.TheVariants.{Check, Format, Serve}

-- the line was sent and all is done, or it was cut short, as a write or the flush failed
abbrev pub IsAcknowledged : List ℕ → OutputState → OutputState → Ending → Type 0
IsAcknowledged line before after ending =
    ((ending ≡ Done) × IsSent before line after) ⊎ ((ending ≡ Faulted StreamFailed) × IsCutShort before line after)

-- the refusal was sent and the program ends with it, or it was cut short, as a write or the flush failed
abbrev pub IsRefused : Fault → OutputState → OutputState → Ending → Type 0
IsRefused fault before after ending =
    ((ending ≡ Faulted fault) × IsSent before (refusal_of fault) after) ⊎ ((ending ≡ Faulted StreamFailed) × IsCutShort before (refusal_of fault) after)

-- both numbers were told, or that was cut short
abbrev pub IsTold : Summary → OutputState → OutputState → Ending → Type 0
IsTold summary before after ending = IsAcknowledged (summary_text summary) before after ending

-- What a formatting does to a disk, however it ends: a stop at any moment of it leaves no store yet of an empty disk that was
-- none, or one that keeps these texts and no table; and it makes as many writes as that takes, and three syncs, at most.
pub record MayFormat {D : Type 0} (Honest Works : D → Type 0) (state : D → DiskState) (past : D → List DiskState) (writes syncs : D → ℕ) (texts : KitTexts) (old new : D) : Type 0 where
  pub stops : Honest new → length (state old).content ≡ 0 → EachImage (state old) (λ image. Refuses image T.NotAStore)
      → LeavesOnly (past old) (state old) (past new) (state new) (λ image. Refuses image T.NotAStore ⊎ KeepsTables texts [] image)
  pub honest : Honest new → Honest old
  pub works : Works new → Works old
  pub few_writes : writes new ≤ writes old + format_writes texts
  pub few_syncs : syncs new ≤ syncs old + 3

-- What a `format` over these texts does to a disk and a writer, and the status with which it ends. Where it isn't made, the
-- disk is as it was or the device failed, a disk that works doesn't fail, and just its refusal is written.
pub data Formats {D : Type 0} (Honest Works : D → Type 0) (state : D → DiskState) (past : D → List DiskState) (faults writes syncs : D → ℕ) (texts : KitTexts) (old new : D)
    (writer_old writer_new : OutputState) : ℕ → Type 0 where
  Made : (ending : Ending) → MayFormat Honest Works state past writes syncs texts old new
      → IsRightKit texts → (Honest new → 0 < length (state old).content → ⊥)
      → (Honest new → FormatAllows texts (state old) (state new) (Ok tt))
      → faults new ≡ faults old → writes new ≡ counted_by (format_writes texts) (writes old)
      → IsAcknowledged (codes "ok\n") writer_old writer_new ending
      → Formats Honest Works state past faults writes syncs texts old new writer_old writer_new (status_of ending)
  Not_made : (fault : store.Fault) (ending : Ending) → MayFormat Honest Works state past writes syncs texts old new
      → RefusesFormat (Honest new) (state old).content texts fault
      → (Honest new → 0 < length (state old).content → fault ≡ T.NotEmpty)
      → (Honest new → FormatAllows texts (state old) (state new) (Err fault))
      → (fault ≡ T.DeviceFailed) ⊎ (new ≡ old)
      → CountsFailure (faults old) (faults new) fault → OnDevice fault (Works new → ⊥)
      → IsRefused (of_store fault) writer_old writer_new ending
      → Formats Honest Works state past faults writes syncs texts old new writer_old writer_new (status_of ending)

-- how a run ends whose serving ended so
abbrev pub ending_of : Result (Unit {0}) Fault → Ending
ending_of (Ok _) = Done
ending_of (Err fault) = Faulted fault

-- Why the tables that are served or told are those of the file: it stands for them, if it stands for a world, on an honest
-- disk that was synced and not written, and that carries them where the file is one of ours, and then in memory they were
-- played, too; and of every disk the kit is a right one, it was synced once and not written, and the device hasn't failed.
pub record Begins {D : Type 0} (Honest Works : D → Type 0) (state : D → DiskState) (past : D → List DiskState) (faults writes syncs : D → ℕ) (old : D) (begun : Moderator D) : Type 0 where
  pub honest : Honest (disk_under begun) → Honest old
  pub works : Works (disk_under begun) → Works old
  pub opens : Honest (disk_under begun) → (texts : KitTexts) (tables : World) → StandsFor (state old).content texts tables
      → Opens (state old).content (held_of begun)
  pub stands : Honest (disk_under begun) → (texts : KitTexts)
      × Between (past old) (state old) (past (disk_under begun)) (state (disk_under begun))
      (λ moments. OpenAllows (state old) moments (state (disk_under begun)) (Ok (texts, (held_of begun).tables)))
      × SpellsKit texts (held_of begun).kit
  pub carries : Honest (disk_under begun) → (texts : KitTexts)
      → KeepsTables texts (held_of begun).tables (state old).content → Carries state (store_of begun) texts
  pub played : Honest (disk_under begun) → (texts : KitTexts) (tables : World) → StandsFor (state old).content texts tables
      → GamesArePlayed (store_of begun)
  pub kit : (texts : KitTexts) × SpellsKit texts (held_of begun).kit
  pub whole : (held_of begun).broken ≡ false
  pub no_fault : faults (disk_under begun) ≡ faults old
  pub no_write : writes (disk_under begun) ≡ writes old
  pub one_sync : syncs (disk_under begun) ≡ counted (syncs old)

-- Why a file is refused, and how the program ends then, with this status: the file breaks a clause, or the device failed or
-- memory was wanted, and of one of ours none but these; the disk was synced, unless the device failed, and it isn't written; a
-- disk that works doesn't fail; and just this refusal is written, so 70 only where the opening wanted memory.
pub record IsRefusedFile {D : Type 0} (Honest Works : D → Type 0) (state : D → DiskState) (past : D → List DiskState) (faults writes syncs : D → ℕ) (old new : D)
    (writer_old writer_new : OutputState) (status : ℕ) : Type 0 where
  pub fault : store.Fault
  pub left : Honest new → Between (past old) (state old) (past new) (state new) (λ moments. OpenAllows (state old) moments (state new) (Err fault))
  pub only : Honest new → (texts : KitTexts) (kit : Kit) (tables : World) → SpellsKit texts kit → AreTablesOf kit tables
      → KeepsTables texts tables (state old).content → IsNoVerdict fault
  pub honest : Honest new → Honest old
  pub works : Works new → Works old
  pub counts : CountsFailure (faults old) (faults new) fault
  pub device : OnDevice fault (Works new → ⊥)
  pub no_write : writes new ≡ writes old
  pub one_sync : syncs new ≡ counted (syncs old)
  pub ending : Ending
  pub ends : status ≡ status_of ending
  pub written : IsRefused (of_store fault) writer_old writer_new ending

-- What `serve` does with a disk, a reader and a writer, and the status with which it ends: the file is opened; each line is
-- answered so that what it comes to lasts, what is written are the replies to what is read, and whatever a stop leaves stands for
-- what was held then, or for that with the request pending then; and where its tables were played, these are the replies that the
-- rules give; it ends with 69 exactly where a read or a write failed; or the file is refused, and the reader isn't read.
pub data Serves {D : Type 0} (Honest Works : D → Type 0) (state : D → DiskState) (past : D → List DiskState) (faults writes syncs : D → ℕ) (old new : D)
    (reader_old reader_new : InputState) (writer_old writer_new : OutputState) : ℕ → Type 0 where
  Served : (begun ended : Moderator D) (result : Result (Unit {0}) Fault) (cause : Result (Unit {0}) serve.Fault)
      → Begins Honest Works state past faults writes syncs old begun
      → EndsAs result cause
      → (session : Session (Lasting Honest Works state past faults writes syncs) told (told_of begun) (told_of ended) reader_old reader_new writer_old writer_new cause)
      → (Honest (disk_under ended) → (texts : KitTexts) → Carries state (store_of begun) texts
      → LeavesOnly (past (disk_under begun)) (state (disk_under begun)) (past (disk_under ended)) (state (disk_under ended))
      (StandsAlong Honest Works state past faults writes syncs texts (told_of begun) session.lines session.replies (told_of ended) session.served))
      → (GamesArePlayed (store_of begun)
      → AreServed (SpeaksAndLasts Honest Works state past faults writes syncs) told (told_of begun) session.lines session.replies (told_of ended))
      → CountsFailures cause reader_old.failures reader_new.failures writer_old.failures writer_new.failures
      → new ≡ disk_under ended
      → Serves Honest Works state past faults writes syncs old new reader_old reader_new writer_old writer_new (status_of (ending_of result))
  Not_served : (status : ℕ) → IsRefusedFile Honest Works state past faults writes syncs old new writer_old writer_new status
      → reader_new ≡ reader_old
      → Serves Honest Works state past faults writes syncs old new reader_old reader_new writer_old writer_new status

-- What `check` does with a disk and a writer, and the status with which it ends: the file is opened, and how much it holds is
-- told; or it is refused.
pub data Checks {D : Type 0} (Honest Works : D → Type 0) (state : D → DiskState) (past : D → List DiskState) (faults writes syncs : D → ℕ) (old new : D)
    (writer_old writer_new : OutputState) : ℕ → Type 0 where
  Checked : (begun : Moderator D) (summary : Summary) (ending : Ending)
      → Begins Honest Works state past faults writes syncs old begun → IsSummary begun summary
      → new ≡ disk_under begun → IsTold summary writer_old writer_new ending
      → Checks Honest Works state past faults writes syncs old new writer_old writer_new (status_of ending)
  Not_checked : (status : ℕ) → IsRefusedFile Honest Works state past faults writes syncs old new writer_old writer_new status
      → Checks Honest Works state past faults writes syncs old new writer_old writer_new status

-- what a plan does; only `serve` reads
abbrev pub Acts : {D : Type 0} → (D → Type 0) → (D → Type 0) → (D → DiskState) → (D → List DiskState) → (D → ℕ) → (D → ℕ) → (D → ℕ) → Plan → KitTexts → D → D
    → InputState → InputState → OutputState → OutputState → ℕ → Type 0
Acts Honest Works state past faults writes syncs (Format file chart roster tiles board) texts old new reader_old reader_new writer_old writer_new status =
    (reader_new ≡ reader_old) × Formats Honest Works state past faults writes syncs texts old new writer_old writer_new status
Acts Honest Works state past faults writes syncs (Serve file) texts old new reader_old reader_new writer_old writer_new status =
    Serves Honest Works state past faults writes syncs old new reader_old reader_new writer_old writer_new status
Acts Honest Works state past faults writes syncs (Check file) texts old new reader_old reader_new writer_old writer_new status =
    (reader_new ≡ reader_old) × Checks Honest Works state past faults writes syncs old new writer_old writer_new status
