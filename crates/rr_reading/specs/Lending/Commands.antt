-- What is still to be read of a chain's commands, and where the words of one stand that was found.
use Rattle.std.specs.Prelude.{◌≡◌, ◌≢◌, ℕ, ◌+◌, ◌-◌, ◌*◌, ◌≤◌, List, [], Option, None, Some, ◌++◌, length, take, drop}
use Rattle.std.specs.Borrow.{Bor}
use Rattle.rr_pages.specs.declared.page.TheConstants.{MOST_USED}
use Rattle.rr_pages.specs.declared.fault.Fault.{Fault}
use Rattle.rr_pages.specs.declared.fault.Fault.TheVariants.{FileFull, HalfFull, Damaged, NotAStore, Disk, OutOfMemory}
use Rattle.rr_pages.specs.declared.fault.Damage.TheVariants.{Form}
use Rattle.rr_reading.specs.declared.lending.joining.TheConstants.{MOST_WORDS}
use Rattle.rr_reading.specs.declared.lending.joining.JoiningBuffer.{JoiningBuffer}
use Rattle.rr_reading.specs.declared.lending.commands.Commands.{Commands}
use Rattle.rr_reading.specs.declared.lending.commands.Found.{Found}
use Rattle.rr_reading.specs.declared.lending.commands.Found.TheVariants.{Inside, Crossing}
use Rattle.rr_reading.specs.declared.forms.Next.{Next}
use Rattle.rr_reading.specs.declared.forms.Next.TheVariants.{Command, End, Cut}
use Rattle.rr_reading.specs.Lending.Chains.{all_of, left_of, links_left, piece_of}
use Rattle.rr_reading.specs.Lending.Fitting.{links_at}
use Rattle.rr_reading.specs.Lending.Pages.{joined}
use Rattle.rr_reading.specs.Dir.Kept.{IsShort, spelled_command}

-- these bytes begin with a command of these words, and go on with the rest
abbrev pub Begins : List ℕ → List ℕ → List ℕ → Type 0
Begins bytes words rest = IsShort words × (bytes ≡ spelled_command words ++ rest)

-- they begin with no command
abbrev pub BeginsNone : List ℕ → Type 0
BeginsNone bytes = (words rest : List ℕ) → IsShort words → bytes ≢ spelled_command words ++ rest

-- some are left, and end within a command
abbrev pub IsCut : List ℕ → Type 0
IsCut bytes = (bytes ≢ []) × BeginsNone bytes

-- the bytes that were joined
abbrev pub bytes_of : JoiningBuffer → List ℕ
bytes_of buffer = buffer.bytes.items

-- the bytes of the chain at hand that no command took so far
abbrev pub rest_of : List ℕ → Commands → List ℕ
rest_of file commands = drop commands.at (piece_of commands.chains) ++ left_of file commands.chains

-- the bytes of the chain at this place, none past the last chain
abbrev pub bytes_at : List ℕ → Commands → ℕ → List ℕ
bytes_at file commands index = joined file (links_at (all_of commands.chains) index)

-- the words of a command that was found
abbrev pub words_in : Commands → Found → List ℕ
words_in commands (Inside start count) = take count (drop start (piece_of commands.chains))
words_in commands (Crossing count) = take count (bytes_of commands.joined)

-- they stand there whole, and aren't too many
abbrev pub StandsIn : Commands → Found → Type 0
StandsIn commands (Inside start count) = (start + count ≤ length (piece_of commands.chains)) × (count ≤ MOST_WORDS)
StandsIn commands (Crossing count) = count ≤ MOST_WORDS

-- no more steps than that are left
abbrev pub steps_left_of : Commands → ℕ
steps_left_of commands = (MOST_USED + 1) * length (links_left commands.chains) + (length (piece_of commands.chains) - commands.at)

-- what one step found: a command, or the end
abbrev pub Finds : List ℕ → Commands → Option Found → Commands → Type 0
Finds file old None new = rest_of file old ≡ []
Finds file old (Some found) new = Begins (rest_of file old) (words_in new found) (rest_of file new)

-- the same of the words that are lent
abbrev pub LendsWords : List ℕ → Commands → Option (Bor (List ℕ)) → Commands → Type 0
LendsWords file old None new = rest_of file old ≡ []
LendsWords file old (Some words) new = Begins (rest_of file old) words.now (rest_of file new)

-- a command was passed, or the chain ends here, or within a command
abbrev pub Passes : List ℕ → Commands → Next → Commands → Type 0
Passes file old Command new = (words : List ℕ) × Begins (rest_of file old) words (rest_of file new)
Passes file old End new = rest_of file old ≡ []
Passes file old Cut new = IsCut (rest_of file old)

-- where the chain ends within a command, so; else the device failed
abbrev pub IfCut : Fault → Type 0 → Type 0
IfCut FileFull P = ⊥
IfCut HalfFull P = ⊥
IfCut (Damaged damage) P = (damage ≡ Form) × P
IfCut NotAStore P = ⊥
IfCut (Disk fault) P = Unit {0}
IfCut OutOfMemory P = ⊥
