-- How the bytes of an input split into lines.
use Rattle.std.specs.Prelude.{◌≡◌, ◌≢◌, ℕ, ◌+◌, List, [], ◌∷◌, ◌++◌, take}
use Rattle.std.specs.List.{AllByRecursion, flat_map}
use Rattle.rr_words.specs.declared.line.TheConstants.{LONGEST_LINE}

-- the byte that ends a line
abbrev pub line_feed : ℕ
line_feed = 10

-- no line feed stands among the bytes
abbrev pub HasNoLineFeed : List ℕ → Type 0
HasNoLineFeed bytes = AllByRecursion (λ byte. byte ≢ line_feed) bytes

-- a line, and the line feed that ends it
abbrev pub ended : List ℕ → List ℕ
ended line = line ++ line_feed ∷ []

-- the input is these lines, each with its line feed, and then a rest that has none
pub record Splits (input : List ℕ) (lines : List (List ℕ)) (rest : List ℕ) : Type 0 where
  pub whole : input ≡ flat_map ended lines ++ rest
  pub each : AllByRecursion HasNoLineFeed lines
  pub last : HasNoLineFeed rest

-- what the machine is handed of a line: all of it, or of one too long the bytes that tell so
unfoldable pub taken : List ℕ → List ℕ
taken line = take (LONGEST_LINE + 1) line
