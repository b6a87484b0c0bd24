-- The lines that users send, and the one text of each.
use Rattle.std.specs.Prelude.{◌≡◌, ℕ, ◌^◌, ◌<◌, List, [], ◌∷◌, Option, None, option_map, option_and_then, bytes_eq, codes, if◌then◌else◌, decimal}
use Rattle.std.specs.Option.{option_map_or}
use Rattle.rr_words.specs.Name.{IsTableName, table_name_of}
use Rattle.rr_words.specs.Numeral.{number_of}
use Rattle.rr_words.specs.Line.{line_of}
use Rattle.rr_roster.specs.Company.{corp_name}
use Rattle.rr_orders.specs.Scan.Company.{corp_of}
use Rattle.rr_code.specs.Request.{IsRequest, request_words}
use Rattle.rr_code.specs.Reading.{read_request_words}
use Rattle.rr_code.specs.Query.{IsQuery, query_words, read_query_words}
use Rattle.rr_code.specs.declared.line.Line.{Line}
use Rattle.rr_code.specs.declared.line.Line.TheVariants as L

-- the words of a line
abbrev pub line_words : Line → List (List ℕ)
line_words (L.Request stamp table request) = decimal stamp ∷ table ∷ request_words request
line_words (L.Query query) = query_words query
line_words (L.Best stamp table corp) = decimal stamp ∷ table ∷ codes "best" ∷ corp_name corp ∷ []

-- a stamp has at most ten digits, and the other parts are what they stand for
abbrev pub IsLine : Line → Type 0
IsLine (L.Request stamp table request) = (stamp < 10 ^ 10) × IsTableName table × IsRequest request
IsLine (L.Query query) = IsQuery query
IsLine (L.Best stamp table corp) = (stamp < 10 ^ 10) × IsTableName table

-- the text of a line: its words with one space between each two
abbrev pub line_text : Line → List ℕ
line_text line = line_of (line_words line)

-- the bytes are the line's text
pub record SpellsLine (bytes : List ℕ) (line : Line) : Type 0 where
  pub is_line : IsLine line
  pub spelled : bytes ≡ line_text line

-- behind a stamp, a table's name and `best`: a corporation
abbrev pub read_best : ℕ → List ℕ → List (List ℕ) → Option Line
read_best stamp table (corp ∷ []) = option_map (L.Best stamp table) (corp_of corp)
read_best stamp table _ = None

-- behind a stamp and a table's name: `best`, or a request
abbrev pub read_for_table : ℕ → List ℕ → List (List ℕ) → Option Line
read_for_table stamp table [] = None
read_for_table stamp table (head ∷ rest) =
    if bytes_eq head (codes "best") then read_best stamp table rest else
    option_map (L.Request stamp table) (read_request_words (head ∷ rest))

-- behind a stamp: a table's name and what is asked of it
abbrev pub read_stamped : ℕ → List (List ℕ) → Option Line
read_stamped stamp [] = None
read_stamped stamp (table ∷ rest) = option_and_then (λ name. read_for_table stamp name rest) (table_name_of table)

-- what words are read as: where the first isn't a number, they are a query's
abbrev pub read_line_words : List (List ℕ) → Option Line
read_line_words [] = None
read_line_words (head ∷ rest) =
    option_map_or (λ stamp. read_stamped stamp rest) (number_of head) (option_map L.Query (read_query_words (head ∷ rest)))
