-- What the faults of a reading mean.
use Rattle.std.specs.Prelude.{ℕ, Result, Option, None, Some}
use Rattle.rr_disk.specs.Faults.{CountsFaultBy, OnFaultBy}
use Rattle.rr_disk.specs.declared.fault.Fault.{Fault as OfDisk}
use Rattle.rr_reading.specs.declared.dir.fault.Fault.{Fault as OfDirectory}
use Rattle.rr_reading.specs.declared.dir.fault.Fault.TheVariants as directory
use Rattle.rr_pages.specs.declared.fault.Fault.{Fault as OfPages}
use Rattle.rr_pages.specs.declared.fault.Fault.TheVariants as pages
use Rattle.rr_pages.specs.declared.fault.Damage.TheVariants.{Form}
use Rattle.rr_reading.specs.declared.fault.Fault.{Fault}
use Rattle.rr_reading.specs.declared.fault.Fault.TheVariants.{Damaged, NotAStore, Disk, OutOfMemory}

-- a fault of the layers below
abbrev pub of_pages : OfPages → Fault
of_pages pages.FileFull = OutOfMemory
of_pages pages.HalfFull = OutOfMemory
of_pages (pages.Damaged damage) = Damaged damage
of_pages pages.NotAStore = NotAStore
of_pages (pages.Disk fault) = Disk fault
of_pages pages.OutOfMemory = OutOfMemory

abbrev pub of_directory : OfDirectory → Fault
of_directory directory.Damaged = Damaged Form
of_directory directory.OutOfMemory = OutOfMemory

-- the device failed, or memory was wanted
abbrev pub IsNoVerdict : Fault → Type 0
IsNoVerdict (Damaged damage) = ⊥
IsNoVerdict NotAStore = ⊥
IsNoVerdict (Disk fault) = Unit {0}
IsNoVerdict OutOfMemory = Unit {0}

-- the fault of the disk that a fault tells, if it tells one
abbrev pub of_disk : Fault → Option OfDisk
of_disk (Damaged damage) = None
of_disk NotAStore = None
of_disk (Disk fault) = Some fault
of_disk OutOfMemory = None

-- a fault of the disk is told exactly where the disk counted one more
abbrev pub CountsFault : {T : Type 0} → ℕ → ℕ → Result T Fault → Type 0
CountsFault old new result = CountsFaultBy of_disk old new result

-- where a call failed by the disk, so
abbrev pub OnDeviceFault : {T : Type 0} → Result T Fault → Type 0 → Type 0
OnDeviceFault result P = OnFaultBy of_disk result P
