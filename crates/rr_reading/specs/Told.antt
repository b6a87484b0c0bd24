-- What following chains answers.
use Rattle.std.specs.Prelude.{◌≡◌, ℕ, Bool, List, Option, None, Some, Result, Ok, Err}
use Rattle.rr_pages.specs.declared.fault.Damage.{Damage}
use Rattle.rr_pages.specs.declared.fault.Fault.{Fault as OfPages}
use Rattle.rr_pages.specs.declared.fault.Fault.TheVariants as pages
use Rattle.rr_pages.specs.declared.fault.Damage.TheVariants.{Form}
use Rattle.rr_reading.specs.declared.forms.Next.{Next}
use Rattle.rr_reading.specs.declared.forms.Next.TheVariants.{Cut}
use Rattle.rr_reading.specs.declared.chains.Followed.{Followed}
use Rattle.rr_reading.specs.declared.chains.Followed.TheVariants.{Broken}
use Rattle.rr_reading.specs.declared.fault.Fault.{Fault}
use Rattle.rr_reading.specs.declared.fault.Fault.TheVariants.{Damaged, NotAStore, Disk, OutOfMemory}
use Rattle.rr_reading.specs.Chains.{AreBroken}

-- a chain that is broken was followed; a fault of the device or for want of memory says nothing of it
abbrev pub told_broken : OfPages → Result Followed Fault
told_broken pages.FileFull = Err OutOfMemory
told_broken pages.HalfFull = Err OutOfMemory
told_broken (pages.Damaged damage) = Ok (Broken damage)
told_broken pages.NotAStore = Err NotAStore
told_broken (pages.Disk fault) = Err (Disk fault)
told_broken pages.OutOfMemory = Err OutOfMemory

-- a chain that ends within a command is cut
abbrev pub of_cut : OfPages → Result Next Fault
of_cut pages.FileFull = Err OutOfMemory
of_cut pages.HalfFull = Err OutOfMemory
of_cut (pages.Damaged damage) = Ok Cut
of_cut pages.NotAStore = Err NotAStore
of_cut (pages.Disk fault) = Err (Disk fault)
of_cut pages.OutOfMemory = Err OutOfMemory

-- what is told of chains that should be of a form: that they aren't, or no verdict
abbrev pub RefusesForm : Fault → Type 0 → Type 0
RefusesForm (Damaged damage) P = (damage ≡ Form) × (P → ⊥)
RefusesForm NotAStore P = ⊥
RefusesForm (Disk fault) P = Unit {0}
RefusesForm OutOfMemory P = Unit {0}

-- chains are given where none of them breaks a clause
abbrev pub told_least : {T : Type 0} → Option Damage → T → Result T Fault
told_least None chains = Ok chains
told_least (Some damage) chains = Err (Damaged damage)

-- why the chains of these heads weren't all read
abbrev pub IsToldBroken : List ℕ → ℕ → List Bool → List (ℕ × ℕ) → Fault → Type 0
IsToldBroken file count before heads (Damaged damage) =
    (least : Damage) × (damage ≡ least) × AreBroken file count before heads least
IsToldBroken file count before heads NotAStore = ⊥
IsToldBroken file count before heads (Disk fault) = Unit {0}
IsToldBroken file count before heads OutOfMemory = Unit {0}
