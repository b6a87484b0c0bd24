-- What a run of the program does with its words, and what it returns: its status, and the file as it is at the end.
use Rattle.std.specs.Prelude.{◌≡◌, ◌⊎◌, ℕ, List, [], ◌∷◌, Some, None, string_bytes}
use Rattle.clap.specs.Words.{Text}
use Rattle.rr_disk.specs.Disk.{DiskState}
use Rattle.rr_disk.specs.declared.disk.Disk.{Ghosts}
use Rattle.rr_kit.specs.Kits.{KitTexts, texts_of}
use Rattle.rr_moderator.specs.declared.fault.Fault.{Fault}
use Rattle.rr_moderator.specs.declared.fault.Fault.TheVariants.{DeviceFailed, OutOfMemory, StreamFailed}
use Rattle.rr_serve.specs.Streams.{InputState, OutputState, IsCutShort, IsSent}
use Rattle.rr_cli.specs.Acting.{Acts, IsRefused}
use Rattle.rr_cli.specs.Calls.{PathEvent, was_not_opened, was_not_read, was_opened, was_read}
use Rattle.rr_cli.specs.Ending.{status_of}
use Rattle.rr_cli.specs.Files.{IsJustOpened}
use Rattle.rr_cli.specs.Plan.{AreRefused, IsPlanOf, file_of, kit_paths, makes_file}
use Rattle.rr_cli.specs.declared.ending.Ended.{Ended}
use Rattle.rr_cli.specs.declared.ending.Ending.{Ending}
use Rattle.rr_cli.specs.declared.ending.Ending.TheVariants.{WordsRefused}
use Rattle.rr_cli.specs.declared.running.Kit.{Kit}
use Rattle.rr_cli.specs.declared.plans.Plan.{Plan}
use Rattle.rr_cli.specs.declared.plans.Plan.TheVariants.{Check, Format, Serve}

-- the texts of a kit that was read
abbrev pub texts_in : Kit → KitTexts
texts_in kit = texts_of kit.chart.items kit.roster.items kit.tiles.items kit.board.items

-- the calls after earlier ones, once the kit's files were read, and hold these texts
abbrev pub after_kit : Plan → KitTexts → List PathEvent → List PathEvent
after_kit (Format file chart roster tiles board) texts before =
    was_read (string_bytes board) texts.board ∷ was_read (string_bytes tiles) texts.tiles
    ∷ was_read (string_bytes roster) texts.roster ∷ was_read (string_bytes chart) texts.chart ∷ before
after_kit (Serve file) texts before = before
after_kit (Check file) texts before = before

-- the files at these paths were read in turn, up to one that couldn't be read, for this fault
abbrev pub FailsToRead : List Text → Fault → List PathEvent → List PathEvent → Type 0
FailsToRead [] fault before after = ⊥
FailsToRead (path ∷ paths) fault before after =
    (after ≡ was_not_read path fault ∷ before) ⊎ ((text : List ℕ) × FailsToRead paths fault (was_read path text ∷ before) after)

-- The program ends with this refusal, and no file was opened: just the refusal's line is written, or a front of it, as a
-- write or the flush failed.
pub record EndsRefused {D : Type 0} (fault : Fault) (before after : OutputState) (ended : Ended D) : Type 0 where
  pub ending : Ending
  pub ends : ended.status ≡ status_of ending
  pub none_left : ended.left ≡ None
  pub written : IsRefused fault before after ending

-- the text was written whole and flushed, or it was cut short, as a write or the flush failed
pub record TellsText (text : Text) (before after : OutputState) : Type 0 where
  pub told : IsSent before text after ⊎ IsCutShort before text after

-- what a plan does with a disk: `opened` is the disk as it was opened, and `left` the disk as it is at the end
pub record ActsOn {D : Type 0} (seen : Ghosts D) (plan : Plan) (texts : KitTexts) (opened left : D)
    (reader_old reader_new : InputState) (writer_old writer_new : OutputState) (status : ℕ) : Type 0 where
  pub acts : Acts seen.Honest seen.Works seen.state seen.past seen.fault_count seen.write_count seen.sync_count plan texts opened left
      reader_old reader_new writer_old writer_new status

-- What a plan does whose kit has these texts. Its file is opened, the plan is done with it, and it is returned as the plan
-- leaves it. Or it can't be opened, and just that is told.
pub data ActsOnFile {D : Type 0} (seen : Ghosts D) (held : DiskState) (plan : Plan) (texts : KitTexts)
    (calls_old calls_new : List PathEvent) (reader_old reader_new : InputState) (writer_old writer_new : OutputState)
    (ended : Ended D) : Type 0 where
  Not_opened : calls_new ≡ was_not_opened (file_of plan) (makes_file plan) ∷ calls_old
      → reader_new ≡ reader_old → EndsRefused DeviceFailed writer_old writer_new ended
      → ActsOnFile seen held plan texts calls_old calls_new reader_old reader_new writer_old writer_new ended
  Acted : (opened left : D) → calls_new ≡ was_opened (file_of plan) (makes_file plan) ∷ calls_old
      → IsJustOpened seen held opened
      → ActsOn seen plan texts opened left reader_old reader_new writer_old writer_new ended.status
      → ended.left ≡ Some left
      → ActsOnFile seen held plan texts calls_old calls_new reader_old reader_new writer_old writer_new ended

-- What a run does whose words gave this plan, by the calls on files, the streams and what it returns. The kit's files are
-- read, and the plan is done with their texts. Or one of them can't be read, and just that is told. Nothing else is read or
-- opened.
pub data CarriesOut {D : Type 0} (seen : Ghosts D) (held : DiskState) (plan : Plan) (calls_old calls_new : List PathEvent)
    (reader_old reader_new : InputState) (writer_old writer_new : OutputState) (ended : Ended D) : Type 0 where
  Kit_not_read : (fault : Fault) → FailsToRead (kit_paths plan) fault calls_old calls_new
      → (fault ≡ StreamFailed) ⊎ (fault ≡ OutOfMemory)
      → reader_new ≡ reader_old → EndsRefused fault writer_old writer_new ended
      → CarriesOut seen held plan calls_old calls_new reader_old reader_new writer_old writer_new ended
  Kit_read : (texts : KitTexts) (calls_kit : List PathEvent) → calls_kit ≡ after_kit plan texts calls_old
      → ActsOnFile seen held plan texts calls_kit calls_new reader_old reader_new writer_old writer_new ended
      → CarriesOut seen held plan calls_old calls_new reader_old reader_new writer_old writer_new ended

-- What a run does with its words. They give a plan, which is carried out. Or they are refused, and some text is written to the
-- error stream alone. Or memory was refused, and just that is told. If there is no plan, no file is touched.
pub data Runs {D : Type 0} (seen : Ghosts D) (held : DiskState) (words : List Text) (calls_old calls_new : List PathEvent)
    (reader_old reader_new : InputState) (writer_old writer_new errors_old errors_new : OutputState) (ended : Ended D) : Type 0 where
  Planned : (plan : Plan) → IsPlanOf words plan
      → CarriesOut seen held plan calls_old calls_new reader_old reader_new writer_old writer_new ended
      → errors_new ≡ errors_old
      → Runs seen held words calls_old calls_new reader_old reader_new writer_old writer_new errors_old errors_new ended
  Words_refused : (text : Text) → AreRefused words
      → calls_new ≡ calls_old → reader_new ≡ reader_old → writer_new ≡ writer_old
      → TellsText text errors_old errors_new → ended.status ≡ status_of WordsRefused → ended.left ≡ None
      → Runs seen held words calls_old calls_new reader_old reader_new writer_old writer_new errors_old errors_new ended
  Not_planned : calls_new ≡ calls_old → reader_new ≡ reader_old → errors_new ≡ errors_old
      → EndsRefused OutOfMemory writer_old writer_new ended
      → Runs seen held words calls_old calls_new reader_old reader_new writer_old writer_new errors_old errors_new ended
