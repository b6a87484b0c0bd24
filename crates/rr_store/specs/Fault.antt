-- The refusals of a store, and those of the layers below as refusals of a store.
use Rattle.std.specs.Prelude.{◌≡◌, ℕ, Result, Ok, Err}
use Rattle.rr_disk.specs.declared.fault.Fault as disk
use Rattle.rr_disk.specs.declared.fault.Fault.TheVariants as D
use Rattle.rr_disk.specs.Disk.{counted}
use Rattle.rr_kit.specs.declared.fault.Fault as kit
use Rattle.rr_kit.specs.declared.fault.Fault.TheVariants as K
use Rattle.rr_log.specs.declared.fault.Fault as log
use Rattle.rr_log.specs.declared.fault.Fault.TheVariants as L
use Rattle.rr_pages.specs.declared.fault.Fault as pages
use Rattle.rr_pages.specs.declared.fault.Fault.TheVariants as P
use Rattle.rr_reading.specs.declared.fault.Fault as reading
use Rattle.rr_reading.specs.declared.fault.Fault.TheVariants as R
use Rattle.rr_store.specs.declared.recovery.fault.Fault as recovery
use Rattle.rr_store.specs.declared.recovery.fault.Fault.TheVariants as V
use Rattle.rr_tables.specs.declared.records.fault.Fault as rules
use Rattle.rr_tables.specs.declared.records.fault.Fault.TheVariants as G
use Rattle.rr_tables.specs.declared.fault.Fault as tables
use Rattle.rr_tables.specs.declared.fault.Fault.TheVariants as T
use Rattle.rr_store.specs.declared.fault.Fault.{Fault}
use Rattle.rr_store.specs.declared.fault.Fault.TheVariants as F

abbrev pub of_kit : kit.Fault → Fault
of_kit K.OutOfMemory = F.OutOfMemory
of_kit fault = F.Kit fault

-- a request that isn't lawful at its table
abbrev pub of_rules : rules.Fault → Fault
of_rules (G.Game fault) = F.Game fault
of_rules (G.StaleStamp stamp) = F.StaleStamp stamp
of_rules G.TurnNotKept = F.TurnNotKept
of_rules G.TooManyCommands = F.TooManyCommands
of_rules G.TooManyTables = F.TooManyTables
of_rules G.NoSuchTable = F.NoSuchTable
of_rules G.OutOfMemory = F.OutOfMemory

-- the open file; a half without room is told as a full file
abbrev pub of_log : log.Fault → Fault
of_log L.DeviceFailed = F.DeviceFailed
of_log L.HalfFull = F.FileFull
of_log L.FileFull = F.FileFull
of_log L.OpenAgain = F.OpenAgain
of_log L.OutOfMemory = F.OutOfMemory

-- tables that don't take a request
abbrev pub of_tables : tables.Fault → Fault
of_tables (T.Rules fault) = of_rules fault
of_tables (T.File fault) = of_log fault

abbrev pub of_disk : disk.Fault → Fault
of_disk D.DeviceFailed = F.DeviceFailed
of_disk D.OutOfMemory = F.OutOfMemory

-- the pages of a new file; it has no record
abbrev pub of_pages : pages.Fault → Fault
of_pages P.FileFull = F.FileFull
of_pages P.HalfFull = F.FileFull
of_pages (P.Damaged damage) = F.Damaged damage
of_pages P.NotAStore = F.NotAStore
of_pages (P.Disk fault) = of_disk fault
of_pages P.OutOfMemory = F.OutOfMemory

-- the bytes of a file
abbrev pub of_reading : reading.Fault → Fault
of_reading (R.Damaged damage) = F.Damaged damage
of_reading R.NotAStore = F.NotAStore
of_reading (R.Disk fault) = of_disk fault
of_reading R.OutOfMemory = F.OutOfMemory

-- what the rules of the game say of a file
abbrev pub of_recovery : recovery.Fault → Fault
of_recovery (V.Damaged damage) = F.Damaged damage
of_recovery (V.Disk fault) = of_disk fault
of_recovery V.OutOfMemory = F.OutOfMemory

-- what a refusal says of the disk's count of faults: one more exactly where the device failed
abbrev pub CountsFailure : ℕ → ℕ → Fault → Type 0
CountsFailure old new F.DeviceFailed = new ≡ counted old
CountsFailure old new _ = new ≡ old

-- a device fault is counted exactly where a call ends with one
abbrev pub CountsEnd : {T : Type 0} → ℕ → ℕ → Result T Fault → Type 0
CountsEnd old new (Ok value) = new ≡ old
CountsEnd old new (Err fault) = CountsFailure old new fault

-- where the device failed, so
abbrev pub OnDevice : Fault → Type 0 → Type 0
OnDevice F.DeviceFailed P = P
OnDevice _ P = Unit {0}

-- where a call ends so that the device failed, so
abbrev pub OnDeviceFault : {T : Type 0} → Result T Fault → Type 0 → Type 0
OnDeviceFault (Ok value) P = Unit {0}
OnDeviceFault (Err fault) P = OnDevice fault P
