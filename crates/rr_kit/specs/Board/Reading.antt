-- How a text spells a board, and which line is wrong where it spells none.
use Rattle.std.specs.Prelude.{◌≡◌, ℕ, ◌≤◌, List, [], ◌∷◌, ◌++◌, length, map}
use Rattle.std.specs.List.{AllZip}
use Rattle.rr_words.specs.Text.{NumberedWords, rows_of, IsSmallAscii}
use Rattle.rr_kit.specs.declared.board.fault.Fault.{Fault}
use Rattle.rr_kit.specs.declared.board.fault.Fault.TheVariants.{BadBoard, OutOfMemory}
use Rattle.rr_kit.specs.Board.Plan.{Plan}
use Rattle.rr_kit.specs.Board.Sound.{IsBoard}
use Rattle.rr_kit.specs.Board.Spelling.{Line, SpellsLine, StandBehindTheirHexes, blocks_in, hexes_in, homes_in}

-- Each row is spelled as a hex, a home or a block. The board has the hexes, homes and blocks of the rows in their order.
pub record SpellsRows (rows : List NumberedWords) (plan : Plan) : Type 0 where
  pub lines : List Line
  pub each_row : AllZip SpellsLine (map (λ row. row.words) rows) lines
  pub hexes_are : plan.hexes ≡ hexes_in lines
  pub homes_are : plan.homes ≡ homes_in lines
  pub blocks_are : plan.blocks ≡ blocks_in lines
  pub behind_hexes : StandBehindTheirHexes lines
  pub is_board : IsBoard plan

-- the rows of the text, which are its lines but for empty ones and comments, spell the board, and it has a hex
pub record Spells (text : List ℕ) (plan : Plan) : Type 0 where
  pub small_ascii : IsSmallAscii text
  pub rows_spelled : SpellsRows (rows_of text) plan
  pub some_hex : 1 ≤ length plan.hexes

-- the rows above this one spell hexes, homes and blocks, and with this one they spell none
pub record IsFirstWrong (rows : List NumberedWords) (number : ℕ) : Type 0 where
  pub above : List NumberedWords
  pub here : NumberedWords
  pub below : List NumberedWords
  pub plan : Plan
  pub split : rows ≡ above ++ here ∷ below
  pub numbered : number ≡ here.number
  pub above_spelled : SpellsRows above plan
  pub here_wrong : (other : Plan) → ¬ SpellsRows (above ++ here ∷ []) other

-- the line that tells why a text spells no board, or 0 where it is the text as a whole
pub data IsBadAt (text : List ℕ) : ℕ → Type 0 where
  NotSmallAscii : ¬ IsSmallAscii text → IsBadAt text 0
  WithoutHex : (plan : Plan) → IsSmallAscii text → SpellsRows (rows_of text) plan → length plan.hexes ≡ 0 → IsBadAt text 0
  WrongLine : (line : ℕ) → IsSmallAscii text → IsFirstWrong (rows_of text) line → IsBadAt text line

-- no board is spelled; or memory is wanting, which it may be only of a text of at most 64 KiB, and of ASCII alone
abbrev pub IsRefusal : List ℕ → Fault → Type 0
IsRefusal text (BadBoard line) = IsBadAt text line × ((plan : Plan) → ¬ Spells text plan)
IsRefusal text OutOfMemory = IsSmallAscii text

-- why rows spell no hexes, homes and blocks
abbrev pub IsRowsFault : List NumberedWords → Fault → Type 0
IsRowsFault rows (BadBoard line) = IsFirstWrong rows line
IsRowsFault rows OutOfMemory = Unit {0}
