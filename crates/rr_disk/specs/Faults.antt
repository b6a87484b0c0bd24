-- What an error says of the disk, of whatever type it is, where some of its kind tell of a fault of the disk.
use Rattle.std.specs.Prelude.{◌≡◌, ℕ, Result, Ok, Err, Option, MatchOption}
use Rattle.rr_disk.specs.Disk.{counted}
use Rattle.rr_disk.specs.declared.fault.Fault.{Fault}
use Rattle.rr_disk.specs.declared.fault.Fault.TheVariants.{DeviceFailed}

-- a fault of the disk is told exactly where the disk counted one more
abbrev pub CountsFaultBy : {T E : Type 0} → (E → Option Fault) → ℕ → ℕ → Result T E → Type 0
CountsFaultBy of_disk old new (Ok value) = new ≡ old
CountsFaultBy of_disk old new (Err error) =
    MatchOption (of_disk error) (new ≡ old) (λ fault. (fault ≡ DeviceFailed) × (new ≡ counted old))

-- where a call failed by the disk, so
abbrev pub OnFaultBy : {T E : Type 0} → (E → Option Fault) → Result T E → Type 0 → Type 0
OnFaultBy of_disk (Ok value) P = Unit {0}
OnFaultBy of_disk (Err error) P = MatchOption (of_disk error) (Unit {0}) (λ fault. P)
