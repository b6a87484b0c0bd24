-- When the first tick of a checkpoint is put off.
use Rattle.std.specs.Prelude.{◌≡◌, ◌<◌, Option, None, Some, IsSome}
use Rattle.rr_log.specs.declared.fault.Fault.{Fault}
use Rattle.rr_log.specs.declared.fault.Fault.TheVariants as F
use Rattle.rr_log.specs.declared.keeping.PutOff.{PutOff}
use Rattle.rr_log.specs.declared.keeping.PutOff.TheVariants as P
use Rattle.rr_log.specs.declared.log.Log.{Log}
use Rattle.rr_log.specs.Calls.{IsFileFull}
use Rattle.rr_log.specs.Lent.{Lent}
use Rattle.rr_log.specs.Log.{IsDue, place_of, ticks_left}

-- why the tick was put off after which this is told if the record has no room
abbrev pub reason_of : Fault → Option PutOff
reason_of F.DeviceFailed = None
reason_of F.HalfFull = None
reason_of F.FileFull = Some P.FileFull
reason_of F.OpenAgain = None
reason_of F.OutOfMemory = Some P.OutOfMemory

-- A checkpoint is under way. Or its first tick was put off: the file was full, since a checkpoint found too few free pages for
-- what was lent or no number; or memory was refused.
abbrev pub BeginsOr : {D R : Type 0} → Log D R → Log D R → Lent → Option PutOff → Type 0
BeginsOr old new lent None = 0 < ticks_left new
BeginsOr old new lent (Some P.FileFull) = (ticks_left new ≡ 0) × IsFileFull old lent
BeginsOr old new lent (Some P.OutOfMemory) = ticks_left new ≡ 0

-- If a checkpoint was due and none was under way, one is under way now, or its first tick was put off for this reason. Nothing
-- else is put off.
pub record BeginsIfDue {D R : Type 0} (old new : Log D R) (lent : Lent) (put_off : Option PutOff) : Type 0 where
  pub due : ticks_left old ≡ 0 → IsDue (place_of old) → BeginsOr old new lent put_off
  pub only : IsSome put_off → (ticks_left old ≡ 0) × IsDue (place_of old)
