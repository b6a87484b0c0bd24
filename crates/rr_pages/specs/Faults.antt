-- What the faults of pages mean.
use Rattle.std.specs.Prelude.{ℕ, Result, Ok, Err, Option, None, Some}
use Rattle.rr_disk.specs.Faults.{CountsFaultBy, OnFaultBy}
use Rattle.rr_disk.specs.declared.fault.Fault.{Fault as OfDisk}
use Rattle.rr_pages.specs.declared.fault.Damage.{Damage}
use Rattle.rr_pages.specs.declared.fault.Damage.TheVariants.{RootField, PageOutside, PageTwice, UsedBytes, Form, Kit, Kept, Records}
use Rattle.rr_pages.specs.declared.fault.Fault.{Fault}
use Rattle.rr_pages.specs.declared.fault.Fault.TheVariants.{FileFull, HalfFull, Damaged, NotAStore, Disk, OutOfMemory}

-- the number of the clause that a damaged file breaks
abbrev pub clause_of : Damage → ℕ
clause_of RootField = 1
clause_of PageOutside = 2
clause_of PageTwice = 3
clause_of UsedBytes = 4
clause_of Form = 5
clause_of Kit = 6
clause_of Kept = 7
clause_of Records = 8

-- the fault of the disk that a fault tells, if it tells one
abbrev pub of_disk : Fault → Option OfDisk
of_disk FileFull = None
of_disk HalfFull = None
of_disk (Damaged damage) = None
of_disk NotAStore = None
of_disk (Disk fault) = Some fault
of_disk OutOfMemory = None

-- a fault of the disk is told exactly where the disk counted one more
abbrev pub CountsFault : {T : Type 0} → ℕ → ℕ → Result T Fault → Type 0
CountsFault old new result = CountsFaultBy of_disk old new result

-- where a call failed by the disk, so
abbrev pub OnDeviceFault : {T : Type 0} → Result T Fault → Type 0 → Type 0
OnDeviceFault result P = OnFaultBy of_disk result P

-- a fault of the device alone
abbrev pub OnlyDevice : {T : Type 0} → Result T Fault → Type 0
OnlyDevice (Ok value) = Unit {0}
OnlyDevice (Err FileFull) = ⊥
OnlyDevice (Err HalfFull) = ⊥
OnlyDevice (Err (Damaged damage)) = ⊥
OnlyDevice (Err NotAStore) = ⊥
OnlyDevice (Err (Disk fault)) = Unit {0}
OnlyDevice (Err OutOfMemory) = ⊥

-- a fault of the device or for want of memory alone
abbrev pub NoVerdict : {T : Type 0} → Result T Fault → Type 0
NoVerdict (Ok value) = Unit {0}
NoVerdict (Err FileFull) = ⊥
NoVerdict (Err HalfFull) = ⊥
NoVerdict (Err (Damaged damage)) = ⊥
NoVerdict (Err NotAStore) = ⊥
NoVerdict (Err (Disk fault)) = Unit {0}
NoVerdict (Err OutOfMemory) = Unit {0}

-- a fault of the device or a full half alone
abbrev pub OnlyHalf : {T : Type 0} → Result T Fault → Type 0
OnlyHalf (Ok value) = Unit {0}
OnlyHalf (Err FileFull) = ⊥
OnlyHalf (Err HalfFull) = Unit {0}
OnlyHalf (Err (Damaged damage)) = ⊥
OnlyHalf (Err NotAStore) = ⊥
OnlyHalf (Err (Disk fault)) = Unit {0}
OnlyHalf (Err OutOfMemory) = ⊥
