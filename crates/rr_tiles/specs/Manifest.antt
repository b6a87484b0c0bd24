-- How a text spells a manifest, and which line is wrong where it spells none.
use Rattle.std.specs.Prelude.{◌≡◌, ◌≢◌, ℕ, ◌≤◌, false, List, [], ◌∷◌, ◌++◌, map, codes, decimal, All, AllPairs}
use Rattle.std.specs.List.{AllZip}
use Rattle.rr_words.specs.Text.{NumberedWords, rows_of, IsSmallAscii}
use Rattle.rr_tiles.specs.Sound.{IsTile}
use Rattle.rr_tiles.specs.Spelling.{SpellsTile}
use Rattle.rr_tiles.specs.Supply.{has_off_board}
use Rattle.rr_tiles.specs.declared.fault.Fault.{Fault}
use Rattle.rr_tiles.specs.declared.fault.Fault.TheVariants.{BadManifest, OutOfMemory}
use Rattle.rr_tiles.specs.declared.supply.Colour.{Colour}
use Rattle.rr_tiles.specs.declared.supply.Colour.TheVariants.{Yellow, Green, Brown}
use Rattle.rr_tiles.specs.declared.supply.Supply.{Supply}

abbrev pub colour_word : Colour → List ℕ
colour_word Yellow = codes "yellow"
colour_word Green = codes "green"
colour_word Brown = codes "brown"

-- a number from 1 to 999 and a count from 1 to 50, of a sound tile without an off-board area
pub record IsSupply (supply : Supply) : Type 0 where
  pub number_from_1 : 1 ≤ supply.number
  pub number_to_999 : supply.number ≤ 999
  pub count_from_1 : 1 ≤ supply.count
  pub count_to_50 : supply.count ≤ 50
  pub sound_tile : IsTile supply.tile
  pub no_off_board : has_off_board supply.tile.parts ≡ false

-- the words are the colour, the number, x and the count, and words that spell the tile
pub record SpellsSupply (words : List (List ℕ)) (supply : Supply) : Type 0 where
  pub tile_words : List (List ℕ)
  pub words_are : words ≡ colour_word supply.colour ∷ decimal supply.number ∷ (120 ∷ decimal supply.count) ∷ tile_words
  pub tile_spelled : SpellsTile tile_words supply.tile
  pub is_supply : IsSupply supply

abbrev pub HaveDifferentNumbers : Supply → Supply → Type 0
HaveDifferentNumbers supply other = supply.number ≢ other.number

-- sound tiles, no two of one number
pub record IsManifest (supplies : List Supply) : Type 0 where
  pub sound_supplies : All IsSupply supplies
  pub different : AllPairs HaveDifferentNumbers supplies

-- each line spells the tile of its place, and no two have one number
pub record SpellsLines (lines : List NumberedWords) (supplies : List Supply) : Type 0 where
  pub each_line : AllZip SpellsSupply (map (λ line. line.words) lines) supplies
  pub is_manifest : IsManifest supplies

pub record Spells (text : List ℕ) (supplies : List Supply) : Type 0 where
  pub small_ascii : IsSmallAscii text
  pub lines_spelled : SpellsLines (rows_of text) supplies

-- the lines above this one spell some tiles, and with this one they spell none
pub record IsFirstWrong (lines : List NumberedWords) (number : ℕ) : Type 0 where
  pub above : List NumberedWords
  pub here : NumberedWords
  pub below : List NumberedWords
  pub supplies : List Supply
  pub split : lines ≡ above ++ here ∷ below
  pub numbered : number ≡ here.number
  pub above_spelled : SpellsLines above supplies
  pub here_wrong : (others : List Supply) → ¬ SpellsLines (above ++ here ∷ []) others

-- the line that tells why a text spells no manifest
pub data IsBadAt (text : List ℕ) : ℕ → Type 0 where
  NotSmallAscii : ¬ IsSmallAscii text → IsBadAt text 0
  WrongLine : (line : ℕ) → IsSmallAscii text → IsFirstWrong (rows_of text) line → IsBadAt text line

-- no manifest is spelled; or memory is wanting, which it may be only of a text of at most 64 KiB, and of ASCII alone
abbrev pub IsRefusal : List ℕ → Fault → Type 0
IsRefusal text (BadManifest line) = IsBadAt text line × ((supplies : List Supply) → ¬ Spells text supplies)
IsRefusal text OutOfMemory = IsSmallAscii text

-- why lines spell no tiles
abbrev pub IsLinesFault : List NumberedWords → Fault → Type 0
IsLinesFault lines (BadManifest line) = IsFirstWrong lines line
IsLinesFault lines OutOfMemory = Unit {0}
