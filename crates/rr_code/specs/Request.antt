-- What is asked of a table, and the one text of each: a command of the game, or that the table is taken back.
use Rattle.std.specs.Prelude.{◌≡◌, ℕ, List, ◌^◌, ◌<◌, decimal, [], ◌∷◌, codes}
use Rattle.rr_words.specs.Name.{IsTableName}
use Rattle.rr_words.specs.Line.{line_of}
use Rattle.rr_turns.specs.declared.request.Request.{Request}
use Rattle.rr_turns.specs.declared.request.Request.TheVariants.{Play, Back, Forget}
use Rattle.rr_code.specs.Command.{IsCommand, spelling}
use Rattle.rr_code.specs.declared.command.Command.{Command}

-- the words of a request
abbrev pub request_words : Request Command → List (List ℕ)
request_words (Play c) = spelling c
request_words (Back turn) = codes "back" ∷ decimal turn ∷ []
request_words (Forget turn) = codes "forget" ∷ decimal turn ∷ []

-- its parts are what they stand for: a turn has at most ten digits
abbrev pub IsRequest : Request Command → Type 0
IsRequest (Play c) = IsCommand c
IsRequest (Back turn) = turn < 10 ^ 10
IsRequest (Forget turn) = turn < 10 ^ 10

-- the text of a request: its words with one space between each two
abbrev pub request_text : Request Command → List ℕ
request_text r = line_of (request_words r)

-- the text of a record: the table's name, one space, and the request's text
abbrev pub record_text : List ℕ → Request Command → List ℕ
record_text table r = line_of (table ∷ request_words r)

-- the bytes are the text of a record of what was asked of a table
pub record SpellsRecord (bytes table : List ℕ) (r : Request Command) : Type 0 where
  pub name : IsTableName table
  pub request : IsRequest r
  pub spelled : bytes ≡ record_text table r
