-- The commands that a table keeps, as its chain holds them.
use Rattle.std.specs.Prelude.{◌≡◌, ℕ, zero, suc, ◌^◌, ◌<◌, List, [], ◌∷◌, ◌++◌, length, take, drop, All}
use Rattle.std.specs.List.{flat_map}
use Rattle.byteorder.specs.Endian.{big_number}
use Rattle.rr_words.specs.Spelling.Number.{spelled_number}

-- a command: how many bytes its words have, and the words
abbrev pub spelled_command : List ℕ → List ℕ
spelled_command words = spelled_number 2 (length words) ++ words

-- its words are short enough
abbrev pub IsShort : List ℕ → Type 0
IsShort words = length words < 2 ^ 16

-- the bytes are those of these commands, one after another
pub record SpellsKept (bytes : List ℕ) (commands : List (List ℕ)) : Type 0 where
  pub short : All IsShort commands
  pub spelled : bytes ≡ flat_map spelled_command commands

-- the words of the first so many commands in these bytes
unfoldable pub first_commands : ℕ → List ℕ → List (List ℕ)
first_commands zero bytes = []
first_commands (suc count) bytes =
    let words = big_number 2 bytes in take words (drop 2 bytes) ∷ first_commands count (drop words (drop 2 bytes))
