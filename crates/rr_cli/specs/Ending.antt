use Rattle.std.specs.Prelude.{ℕ, Bool, ◌==◌, ◌||◌, ◌&&◌, nat_le, if◌then◌else◌}
use Rattle.rr_moderator.specs.Fault.{number_of}
use Rattle.rr_cli.specs.declared.ending.Ending.{Ending}
use Rattle.rr_cli.specs.declared.ending.Ending.TheVariants.{Done, WordsRefused, Faulted}

-- a text of the kit is wrong (3 to 7), the file is damaged (63) or is no store (64)
abbrev pub is_bad_file : ℕ → Bool
is_bad_file number = (nat_le 3 number && nat_le number 7) || (number == 63 || number == 64)

abbrev pub status_of : Ending → ℕ
status_of Done = 0
status_of WordsRefused = 2
status_of (Faulted fault) = if is_bad_file (number_of fault) then 3 else 4
