-- What runs of the program rest on.
use Rattle.std.proofs.Common.{◌≡◌, ◌⊎◌, ◌∙◌, refl, sym, ap, inl, inr, ℕ, Bool, true, false, true≢false, List, ◌∷◌}
use Rattle.std.proofs.Common.{subst, OnErr, OnOk, Result, Ok, Err}
use Rattle.clap.specs.Words.{Text}
use Rattle.rr_disk.specs.declared.disk.Disk.{Ghosts}
use Rattle.rr_kit.specs.Kits.{KitTexts, texts_of}
use Rattle.rr_moderator.specs.declared.fault.Fault as moderator
use Rattle.rr_serve.specs.declared.faults.Fault as serve
use Rattle.rr_serve.specs.Streams.{InputState, OutputState, IsCutShort, IsSent}
use Rattle.rr_cli.specs.Acting.{Acts}
use Rattle.rr_cli.specs.Calls.{PathEvent, was_not_opened, was_opened}
use Rattle.rr_cli.specs.Running.{ActsOn, EndsRefused, TellsText}
use Rattle.rr_cli.specs.declared.ending.Ended.{Ended}
use Rattle.rr_cli.specs.declared.fault.Fault.{Fault}
use Rattle.rr_cli.specs.declared.plans.Plan.{Plan}
use Rattle.rr_cli.specs.declared.fault.Fault.TheVariants.{OutOfMemory, Words}

-- texts that are lent are those of the kit
pub same_texts : (a b c d p q r s : List ℕ) → a ≡ p → b ≡ q → c ≡ r → d ≡ s → texts_of a b c d ≡ texts_of p q r s
same_texts a b c d p q r s e f g h = rw (e, f, g, h) refl

-- what is done with texts that are lent is done with those that they are
pub acts_with : {D : Type 0} (seen : Ghosts D) (plan : Plan) (lent texts : KitTexts) (opened left : D)
    (reader_old reader_new : InputState) (writer_old writer_new : OutputState) (status : ℕ) → lent ≡ texts
    → Acts seen.Honest seen.Works seen.state seen.past seen.fault_count seen.write_count seen.sync_count plan lent opened left
    reader_old reader_new writer_old writer_new status
    → ActsOn seen plan texts opened left reader_old reader_new writer_old writer_new status
acts_with seen plan lent texts opened left reader_old reader_new writer_old writer_new status same acts = record {
  acts = subst (λ (it : KitTexts). Acts seen.Honest seen.Works seen.state seen.past seen.fault_count seen.write_count seen.sync_count plan it
      opened left reader_old reader_new writer_old writer_new status) same acts;
}

-- the file that a plan names was opened, or wasn't
pub opened_as : (before after : List PathEvent) (path named : List ℕ) (make makes : Bool) → path ≡ named → make ≡ makes
    → after ≡ was_opened path make ∷ before → after ≡ was_opened named makes ∷ before
opened_as before after path named make makes p q r = cc

pub not_opened_as : (before after : List PathEvent) (path named : List ℕ) (make makes : Bool) → path ≡ named → make ≡ makes
    → after ≡ was_not_opened path make ∷ before → after ≡ was_not_opened named makes ∷ before
not_opened_as before after path named make makes p q r = cc

-- the bytes of a text were sent whole, or they were cut short
pub tells_text : (result : Result (Unit {0}) serve.Fault) (bytes text : Text) (before after : OutputState) → bytes ≡ text
    → OnOk result (IsSent before bytes after) → OnErr result (IsCutShort before bytes after) → TellsText text before after
tells_text (Ok _) bytes text before after same whole cut =
    record { told = inl (subst (λ (it : Text). IsSent before it after) same whole) }
tells_text (Err _) bytes text before after same whole cut =
    record { told = inr (subst (λ (it : Text). IsCutShort before it after) same cut) }

abbrev pub wants_memory : Fault → Bool
wants_memory (Words text) = false
wants_memory OutOfMemory = true

-- another fault than want of memory is why words are refused
pub words_refused : (fault : Fault) (Refused : Type 0) → wants_memory fault ≡ false → (fault ≡ OutOfMemory) ⊎ Refused → Refused
words_refused fault Refused other (inl memory) = absurd (true≢false (sym (ap wants_memory memory) ∙ other))
words_refused fault Refused other (inr refused) = refused

-- a refusal told of one fault is told of another that it is
pub ends_as : {D : Type 0} (fault told : moderator.Fault) (before after : OutputState) (ended : Ended D) → fault ≡ told
    → EndsRefused fault before after ended → EndsRefused told before after ended
ends_as fault told before after ended same ends =
    subst (λ (it : moderator.Fault). EndsRefused it before after ended) same ends
