use Rattle.std.specs.Prelude.{ℕ, Option, Some, None}
use Rattle.rr_moderator.specs.declared.fault.Fault.TheVariants as moderator
use Rattle.rr_cli.specs.declared.fault.Fault.{Fault}
use Rattle.rr_cli.specs.declared.fault.Fault.TheVariants.{OutOfMemory, Words}
use Rattle.rr_cli.specs.declared.ending.Ending.{Ending}
use Rattle.rr_cli.specs.declared.ending.Ending.TheVariants.{Faulted, WordsRefused}

-- refused words have no number
abbrev pub number_of : Fault → Option ℕ
number_of (Words text) = None
number_of OutOfMemory = Some 70

abbrev pub ending_of : Fault → Ending
ending_of (Words text) = WordsRefused
ending_of OutOfMemory = Faulted moderator.OutOfMemory
