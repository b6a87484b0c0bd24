-- The words of a table's commands in one buffer, one behind the other, as the table's chain has them.
use Rattle.std.specs.Prelude.{◌≡◌, ℕ, ◌+◌, ◌-◌, ◌≤◌, List, [], ◌∷◌, ◌++◌, All, Option, length, nat_lt, slice_range, if◌then◌else◌}
use Rattle.std.specs.Borrow.{Bor}
use Rattle.std.specs.Iterator.{YieldsFirstRef}
use Rattle.std.specs.List.{flat_map}
use Rattle.rr_words.specs.Spelling.Number.{spelled_number}
use Rattle.rr_turns.specs.declared.limits.TheConstants.{LONGEST_COMMAND, MOST_COMMANDS}

-- a command's words as the chain has them: how many bytes they are, in two bytes, and the words
abbrev pub spelled_command : List ℕ → List ℕ
spelled_command words = spelled_number 2 (length words) ++ words

-- those of several commands, one behind the other
abbrev pub spelled_commands : List (List ℕ) → List ℕ
spelled_commands commands = flat_map spelled_command commands

-- words whose length two bytes tell
abbrev pub IsShort : List ℕ → Type 0
IsShort words = length words ≤ LONGEST_COMMAND

-- where each command's words end, where so many bytes stand in front of them all
abbrev pub ends_behind : ℕ → List (List ℕ) → List ℕ
ends_behind before [] = []
ends_behind before (words ∷ others) = (before + 2 + length words) ∷ ends_behind (before + 2 + length words) others

-- the words that end at these places, each two bytes behind the end of those before it
abbrev pub words_ending : List ℕ → ℕ → List ℕ → List (List ℕ)
words_ending bytes before [] = []
words_ending bytes before (end ∷ ends) = slice_range bytes (before + 2) end ∷ words_ending bytes end ends

-- the bytes and the ends are those of these commands' words
pub record AreOf (bytes ends : List ℕ) (commands : List (List ℕ)) : Type 0 where
  pub short : All IsShort commands
  pub few : length commands ≤ MOST_COMMANDS
  pub spelled : bytes ≡ spelled_commands commands
  pub ended : ends ≡ ends_behind 0 commands

-- how many bytes fit behind those that are there; none where one end more doesn't fit
abbrev pub room_of : ℕ → ℕ → ℕ → ℕ → ℕ
room_of used capacity ended ends_capacity = if nat_lt ended ends_capacity then capacity - used else 0

-- what a buffer holds: the words of each command, and how many bytes more fit without a request for memory
pub record Buffer : Type 0 where
  pub commands : List (List ℕ)
  pub room : ℕ

-- one command more fits, whose words are so many bytes
abbrev pub HasRoom : Buffer → ℕ → Type 0
HasRoom buffer count = count + 2 ≤ buffer.room

-- what a call of `next` does to the commands that are left
abbrev pub GivesFirst : List (List ℕ) → Option (Bor (List ℕ)) → List (List ℕ) → Type 0
GivesFirst = YieldsFirstRef (λ commands. commands)
