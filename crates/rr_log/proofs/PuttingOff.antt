-- That a checkpoint which is due begins with a record, or is put off.
use Rattle.std.proofs.Common.{◌≡◌, inl, inr, Option, None, Some, Result, Ok, Err, IfOk, IsErrOf, refl, sym, ◌∙◌, ap, subst, arith}
use Rattle.rr_checkpoint.specs.declared.writer.Tick.{Tick}
use Rattle.rr_log.specs.declared.fault.Fault.{Fault}
use Rattle.rr_log.specs.declared.fault.Fault.TheVariants as F
use Rattle.rr_log.specs.declared.keeping.PutOff.{PutOff}
use Rattle.rr_log.specs.declared.keeping.PutOff.TheVariants as P
use Rattle.rr_log.specs.declared.log.Log.{Log}
use Rattle.rr_log.specs.Calls.{IsFileFull, IsUnchanged}
use Rattle.rr_log.specs.Fault.{IsWant}
use Rattle.rr_log.specs.Lent.{Lent}
use Rattle.rr_log.specs.Log.{IsDue, place_of, ticks_left}
use Rattle.rr_log.specs.PuttingOff.{BeginsIfDue, BeginsOr, reason_of}

module _ {D R : Type 0} (old new : Log D R) (lent : Lent) where
  -- a tick that was refused puts it off
  refused : (fault : Fault) → IsWant fault → ticks_left old ≡ 0 → IsDue (place_of old) → ticks_left new ≡ ticks_left old → (fault ≡ F.FileFull → IsFileFull old lent) → BeginsIfDue old new lent (reason_of fault)
  refused F.DeviceFailed (inl is) none due same full = absurd (cc is)
  refused F.DeviceFailed (inr is) none due same full = absurd (cc is)
  refused F.HalfFull (inl is) none due same full = absurd (cc is)
  refused F.HalfFull (inr is) none due same full = absurd (cc is)
  refused F.FileFull want none due same full = record { due = λ _ _. (same ∙ none, full refl); only = λ is. (none, due) }
  refused F.OpenAgain (inl is) none due same full = absurd (cc is)
  refused F.OpenAgain (inr is) none due same full = absurd (cc is)
  refused F.OutOfMemory want none due same full = record { due = λ _ _. same ∙ none; only = λ is. (none, due) }

  pub refused_so : (fault : Fault) (result : Result Fault Fault) → IfOk result (λ full. (full ≡ fault) × IsWant fault) → (IsWant fault → ticks_left old ≡ 0) → (IsWant fault → IsDue (place_of old)) → (IsWant fault → IsUnchanged old new)
      → (IsErrOf {T = Tick} (Err fault) F.FileFull → IsFileFull old lent) → IfOk result (λ full. BeginsIfDue old new lent (reason_of full))
  refused_so fault (Ok full) want none due same is_full =
      subst (λ (f : Fault). BeginsIfDue old new lent (reason_of f)) (sym want.0)
      (refused fault want.1 (none want.1) (due want.1) (same want.1).left (λ is. is_full (ap (λ (f : Fault). Err f) is)))
  refused_so fault (Err told) want none due same is_full = tt

  -- and so it stays with the record
  begun_on : (then : Log D R) (put_off : Option PutOff) → ticks_left then ≡ ticks_left new → BeginsOr old new lent put_off → BeginsOr old then lent put_off
  begun_on then None same begun = omega (arith, same, begun)
  begun_on then (Some P.FileFull) same begun = (same ∙ begun.0, begun.1)
  begun_on then (Some P.OutOfMemory) same begun = same ∙ begun

  pub kept_on : (then : Log D R) (put_off : Option PutOff) → ticks_left then ≡ ticks_left new → BeginsIfDue old new lent put_off → BeginsIfDue old then lent put_off
  kept_on then put_off same begins = record { due = λ none due. begun_on then put_off same (begins.due none due); only = begins.only }
