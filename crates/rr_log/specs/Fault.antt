-- The refusals of an open file.
use Rattle.std.specs.Prelude.{◌≡◌, ◌⊎◌, ℕ, Bool, true, false, Result, Ok, Err}
use Rattle.rr_disk.specs.Disk.{counted}
use Rattle.rr_log.specs.declared.fault.Fault.{Fault}
use Rattle.rr_log.specs.declared.fault.Fault.TheVariants as F

-- what a refusal says of the disk's count of faults: one more exactly where the device failed
abbrev pub Counts : ℕ → ℕ → Fault → Type 0
Counts old new F.DeviceFailed = new ≡ counted old
Counts old new F.HalfFull = new ≡ old
Counts old new F.FileFull = new ≡ old
Counts old new F.OpenAgain = new ≡ old
Counts old new F.OutOfMemory = new ≡ old

-- a device fault is told exactly where the disk counted one more
abbrev pub CountsFault : {T : Type 0} → ℕ → ℕ → Result T Fault → Type 0
CountsFault old new (Ok value) = new ≡ old
CountsFault old new (Err fault) = Counts old new fault

-- behind this refusal nothing is kept any more
abbrev pub breaks : Fault → Bool
breaks F.DeviceFailed = true
breaks F.HalfFull = false
breaks F.FileFull = false
breaks F.OpenAgain = true
breaks F.OutOfMemory = false

-- a call on the file that ends so leaves it broken
abbrev pub ends_broken : {T : Type 0} → Result T Fault → Bool
ends_broken (Ok value) = false
ends_broken (Err fault) = breaks fault

-- the refusals of a checkpoint that want pages, numbers or memory
abbrev pub IsWant : Fault → Type 0
IsWant fault = (fault ≡ F.FileFull) ⊎ (fault ≡ F.OutOfMemory)

-- where the device failed, so
abbrev pub OnDevice : Fault → Type 0 → Type 0
OnDevice F.DeviceFailed P = P
OnDevice F.HalfFull P = Unit {0}
OnDevice F.FileFull P = Unit {0}
OnDevice F.OpenAgain P = Unit {0}
OnDevice F.OutOfMemory P = Unit {0}

-- where a call ends so that the device failed, so
abbrev pub OnDeviceFault : {T : Type 0} → Result T Fault → Type 0 → Type 0
OnDeviceFault (Ok value) P = Unit {0}
OnDeviceFault (Err fault) P = OnDevice fault P
