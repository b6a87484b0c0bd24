-- Why a record isn't taken.
use Rattle.rr_tables.specs.declared.records.fault.Fault.TheVariants as R
use Rattle.rr_tables.specs.declared.fault.Fault as tables
use Rattle.rr_tables.specs.declared.fault.Fault.TheVariants as T
use Rattle.rr_pages.specs.declared.fault.Damage.TheVariants.{Records}
use Rattle.rr_store.specs.declared.recovery.fault.Fault.{Fault}
use Rattle.rr_store.specs.declared.recovery.fault.Fault.TheVariants.{Damaged, OutOfMemory}

-- a record that the tables refuse damages the file, unless memory was wanted
abbrev pub of_tables : tables.Fault → Fault
of_tables (T.Rules R.OutOfMemory) = OutOfMemory
of_tables _ = Damaged Records
