-- What is left of a line that is read word by word.
use Rattle.std.specs.Prelude.{ℕ, List, [], ◌∷◌, Option, Some, None}
use Rattle.std.specs.Borrow.{Bor}
use Rattle.rr_words.specs.Line.{words_of}
use Rattle.rr_words.specs.Name.{table_name_of, player_name_of}

-- the words of what is left of a line
abbrev pub words_left : Option (Bor (List ℕ)) → List (List ℕ)
words_left None = []
words_left (Some line) = words_of line.now

-- the table that the first word names, and the one that the only word names
abbrev pub next_table : List (List ℕ) → Option (List ℕ)
next_table [] = None
next_table (table ∷ _) = table_name_of table

abbrev pub only_table : List (List ℕ) → Option (List ℕ)
only_table (table ∷ []) = table_name_of table
only_table _ = None

-- the player that the first word names
abbrev pub next_player : List (List ℕ) → Option (List ℕ)
next_player [] = None
next_player (player ∷ _) = player_name_of player
