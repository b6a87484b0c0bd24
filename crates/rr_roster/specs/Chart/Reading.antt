-- How a text spells a chart, and which word is wrong where it spells none.
use Rattle.std.specs.Prelude.{◌≡◌, ℕ, ◌+◌, ◌==◌, ◌||◌, nat_le, Bool, false, List, [], ◌∷◌, ◌++◌, length, map, if◌then◌else◌, Option, None, Some, option_and_then}
use Rattle.std.specs.List.{list_any}
use Rattle.rr_words.specs.Text.{NumberedWords, rows_of, IsSmallAscii}
use Rattle.rr_roster.specs.Chart.Cell.{cell_of, word_of}
use Rattle.rr_roster.specs.Chart.Chart.{Row, par_at, pars_of, IsFront, IsChart}
use Rattle.rr_roster.specs.declared.chart.cell.Cell.{Cell}
use Rattle.rr_roster.specs.declared.chart.cell.Place.{Place}
use Rattle.rr_roster.specs.declared.chart.cell.ParCell.{ParCell}
use Rattle.rr_roster.specs.declared.chart.fault.Fault.{Fault}
use Rattle.rr_roster.specs.declared.chart.fault.Fault.TheVariants.{BadChart, OutOfMemory}

abbrev pub words_in : List NumberedWords → List (List (List ℕ))
words_in lines = map (λ line. line.words) lines

abbrev pub words_for : List Row → List (List (List ℕ))
words_for rows = map (λ row. map word_of row) rows

-- the words of the text's lines are those of the chart's rows
pub record Spells (text : List ℕ) (chart : List Row) : Type 0 where
  pub small_ascii : IsSmallAscii text
  pub words : words_in (rows_of text) ≡ words_for chart
  pub is_chart : IsChart chart

-- the words of the line before this one go on from the rows above, and this one doesn't
pub record IsFirstWrongInLine (above : List Row) (words : List (List ℕ)) (place : ℕ) : Type 0 where
  pub cells : Row
  pub wrong : List ℕ
  pub after : List (List ℕ)
  pub split : words ≡ map word_of cells ++ wrong ∷ after
  pub counted : place ≡ length cells + 1
  pub right_before : IsFront above cells
  pub no_cell : (cell : Option Cell) → wrong ≡ word_of cell → ¬ IsFront above (cells ++ cell ∷ [])

-- the lines above are rows of a chart, and this word of this line is the first that doesn't go on
pub record IsFirstWrong (lines : List NumberedWords) (line place : ℕ) : Type 0 where
  pub above : List NumberedWords
  pub here : NumberedWords
  pub below : List NumberedWords
  pub rows : List Row
  pub split : lines ≡ above ++ here ∷ below
  pub numbered : line ≡ here.number
  pub above_spelled : words_in above ≡ words_for rows
  pub in_line : IsFirstWrongInLine rows here.words place

-- each word is right, but there is no par cell
pub record IsWithoutPar (lines : List NumberedWords) : Type 0 where
  pub rows : List Row
  pub spelled : words_in lines ≡ words_for rows
  pub front : IsFront rows []
  pub no_par : pars_of rows ≡ []

-- the place that tells why a text spells no chart
pub data IsBadAt (text : List ℕ) : ℕ → ℕ → Type 0 where
  NotSmallAscii : ¬ IsSmallAscii text → IsBadAt text 0 0
  WithoutPar : IsSmallAscii text → IsWithoutPar (rows_of text) → IsBadAt text 0 0
  WrongWord : (line place : ℕ) → IsSmallAscii text → IsFirstWrong (rows_of text) line place → IsBadAt text line place

-- no chart is spelled; or memory is wanting, which it may be only of a text of at most 64 KiB, and of ASCII alone
abbrev pub IsRefusal : List ℕ → Fault → Type 0
IsRefusal text (BadChart line place) = IsBadAt text line place × ((chart : List Row) → ¬ Spells text chart)
IsRefusal text OutOfMemory = IsSmallAscii text

abbrev pub has_price : List ParCell → ℕ → Bool
has_price pars price = list_any (λ par. par.price == price) pars

abbrev pub is_double : List ParCell → Option ParCell → Bool
is_double pars None = false
is_double pars (Some par) = has_price pars par.price

abbrev pub undoubled : Place → List ParCell → Option Cell → Option (Option Cell)
undoubled place pars cell = if is_double pars (par_at place cell) then None else Some cell

-- the cell that a word spells, if it may stand at a place behind these par cells
abbrev pub next_cell : Place → List ℕ → List ParCell → Option (Option Cell)
next_cell place word pars =
    if nat_le 16 place.row || nat_le 24 place.column then None
    else option_and_then (undoubled place pars) (cell_of word)

pub record IsRowRead (above : List Row) (line : NumberedWords) (row : Row) (pars : List ParCell) : Type 0 where
  pub spelled : line.words ≡ map word_of row
  pub front : IsFront (above ++ row ∷ []) []
  pub noted : pars ≡ pars_of (above ++ row ∷ [])

abbrev pub IsRowFault : List Row → NumberedWords → Fault → Type 0
IsRowFault above line (BadChart number place) = (number ≡ line.number) × IsFirstWrongInLine above line.words place
IsRowFault above line OutOfMemory = Unit {0}

pub record AreRowsRead (lines : List NumberedWords) (rows : List Row) (pars : List ParCell) : Type 0 where
  pub spelled : words_in lines ≡ words_for rows
  pub front : IsFront rows []
  pub noted : pars ≡ pars_of rows

abbrev pub IsRowsFault : List NumberedWords → Fault → Type 0
IsRowsFault lines (BadChart line place) = IsFirstWrong lines line place
IsRowsFault lines OutOfMemory = Unit {0}
