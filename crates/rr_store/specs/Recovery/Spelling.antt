-- Going over kept commands, and looking at their words.
use Rattle.std.specs.Prelude.{◌≡◌, ℕ, List, [], Result, Ok, Err}
use Rattle.rr_pages.specs.declared.fault.Fault.{Fault as OfPages}
use Rattle.rr_pages.specs.declared.fault.Fault.TheVariants as P
use Rattle.rr_reading.specs.declared.lending.commands.Commands.{Commands}
use Rattle.rr_reading.specs.Lending.Commands.{Begins, IsCut, rest_of}
use Rattle.rr_store.specs.declared.recovery.fault.Fault.{Fault}
use Rattle.rr_store.specs.declared.recovery.fault.Fault.TheVariants as F
use Rattle.rr_store.specs.declared.recovery.words.Next.{Next}
use Rattle.rr_store.specs.declared.recovery.words.Next.TheVariants.{Spelled, Unspelled, End, Cut}
use Rattle.rr_store.specs.Recovery.Told.{IsSpelled}

-- what is told of the words of a command
abbrev pub TellsSpelled : List ℕ → Next → Type 0
TellsSpelled words Spelled = IsSpelled words
TellsSpelled words Unspelled = IsSpelled words → ⊥
TellsSpelled words End = ⊥
TellsSpelled words Cut = ⊥

-- a command was passed, and its words were looked at; or the chain ends here, or within a command
abbrev pub ReadsWords : List ℕ → Commands → Next → Commands → Type 0
ReadsWords file old Spelled new = (words : List ℕ) × Begins (rest_of file old) words (rest_of file new) × IsSpelled words
ReadsWords file old Unspelled new = (words : List ℕ) × Begins (rest_of file old) words (rest_of file new) × (IsSpelled words → ⊥)
ReadsWords file old End new = rest_of file old ≡ []
ReadsWords file old Cut new = IsCut (rest_of file old)

-- a chain that ends within a command is cut
abbrev pub of_cut : OfPages → Result Next Fault
of_cut (P.Disk fault) = Err (F.Disk fault)
of_cut _ = Ok Cut
