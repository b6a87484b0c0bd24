-- What the faults of a recovery mean.
use Rattle.std.specs.Prelude.{◌≡◌, ℕ, Result, Option, None, Some}
use Rattle.rr_disk.specs.Faults.{CountsFaultBy, OnFaultBy}
use Rattle.rr_disk.specs.declared.fault.Fault.{Fault as OfDisk}
use Rattle.rr_pages.specs.declared.fault.Fault.{Fault as OfPages}
use Rattle.rr_pages.specs.declared.fault.Fault.TheVariants as P
use Rattle.rr_pages.specs.declared.fault.Damage.{Damage}
use Rattle.rr_game.specs.declared.history.fault.Fault as table
use Rattle.rr_game.specs.declared.history.fault.Fault.TheVariants as H
use Rattle.rr_pages.specs.declared.fault.Damage.TheVariants.{Kept}
use Rattle.rr_store.specs.declared.recovery.fault.Fault.{Fault}
use Rattle.rr_store.specs.declared.recovery.fault.Fault.TheVariants.{Damaged, Disk, OutOfMemory}

-- a kept command that its table refuses damages the file, unless memory was wanted
abbrev pub of_table : table.Fault → Fault
of_table H.OutOfMemory = OutOfMemory
of_table _ = Damaged Kept

-- the fault of the disk that a fault tells, if it tells one
abbrev pub of_disk : Fault → Option OfDisk
of_disk (Damaged damage) = None
of_disk (Disk fault) = Some fault
of_disk OutOfMemory = None

-- a fault of the disk is told exactly where the disk counted one more
abbrev pub CountsFault : {T : Type 0} → ℕ → ℕ → Result T Fault → Type 0
CountsFault old new result = CountsFaultBy of_disk old new result

-- where a call failed by the disk, so
abbrev pub OnDeviceFault : {T : Type 0} → Result T Fault → Type 0 → Type 0
OnDeviceFault result P = OnFaultBy of_disk result P

-- the device failed
abbrev pub IsOfDevice : Fault → Type 0
IsOfDevice (Damaged damage) = ⊥
IsOfDevice (Disk fault) = Unit {0}
IsOfDevice OutOfMemory = ⊥

-- the device failed, or memory was wanted; or the file breaks this clause, and that is so
abbrev pub IsOrBreaks : Damage → Type 0 → Fault → Type 0
IsOrBreaks clause P (Damaged damage) = (damage ≡ clause) × P
IsOrBreaks clause P (Disk fault) = Unit {0}
IsOrBreaks clause P OutOfMemory = Unit {0}

-- A chain that ends within a command holds other commands than its table keeps. Nothing else is told of one that is
-- lent.
abbrev pub of_chain : OfPages → Fault
of_chain P.FileFull = OutOfMemory
of_chain P.HalfFull = OutOfMemory
of_chain (P.Damaged damage) = Damaged Kept
of_chain P.NotAStore = Damaged Kept
of_chain (P.Disk fault) = Disk fault
of_chain P.OutOfMemory = OutOfMemory
