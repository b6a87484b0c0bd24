-- How words spell a line of a board.
use Rattle.std.specs.Prelude.{◌≡◌, ℕ, ◌+◌, ◌<◌, ◌⊎◌, ℤ, pos, negsuc, List, [], ◌∷◌, ◌++◌, length, take, slice_index_or, codes, decimal, filter_map, Option, None, Some}
use Rattle.rr_roster.specs.Company.{corp_name, private_name}
use Rattle.rr_tiles.specs.Spelling.{SpellsTile}
use Rattle.rr_kit.specs.declared.board.hex.Place.{Place}
use Rattle.rr_kit.specs.declared.board.hex.Colour.{Colour}
use Rattle.rr_kit.specs.declared.board.hex.Colour.TheVariants.{White, Yellow, Green, Brown, Grey, Red}
use Rattle.rr_kit.specs.declared.board.hex.Hex.{Hex}
use Rattle.rr_kit.specs.declared.board.hex.Home.{Home}
use Rattle.rr_kit.specs.declared.board.hex.Block.{Block}
use Rattle.rr_kit.specs.Board.Sound.{HasHex, IsHex}

-- the digits, behind a minus where the number is below 0
abbrev pub coordinate_word : ℤ → List ℕ
coordinate_word (pos n) = decimal n
coordinate_word (negsuc n) = 45 ∷ decimal (n + 1)

-- as 3,-1
abbrev pub place_word : Place → List ℕ
place_word place = coordinate_word place.q ++ 44 ∷ coordinate_word place.r

abbrev pub colour_word : Colour → List ℕ
colour_word White = codes "white"
colour_word Yellow = codes "yellow"
colour_word Green = codes "green"
colour_word Brown = codes "brown"
colour_word Grey = codes "grey"
colour_word Red = codes "red"

-- as cost=80
abbrev pub cost_word : ℕ → List ℕ
cost_word cost = codes "cost=" ++ decimal cost

-- one word names the cost, or none, and then it is 0
abbrev pub SpellCost : List (List ℕ) → ℕ → Type 0
SpellCost words cost = (words ≡ cost_word cost ∷ []) ⊎ ((words ≡ []) × (cost ≡ 0))

-- hex <name> <q>,<r> <colour> [cost=N] <tile text>
pub record SpellsHex (words : List (List ℕ)) (hex : Hex) : Type 0 where
  pub cost_words : List (List ℕ)
  pub tile_words : List (List ℕ)
  pub words_are : words ≡ codes "hex" ∷ hex.name ∷ place_word hex.place ∷ colour_word hex.colour ∷ (cost_words ++ tile_words)
  pub cost_spelled : SpellCost cost_words hex.cost
  pub tile_spelled : SpellsTile tile_words hex.tile
  pub is_hex : IsHex hex

-- home <corporation> <hex> <centre>
abbrev pub home_words : Home → List (List ℕ)
home_words home = codes "home" ∷ corp_name home.corp ∷ home.hex ∷ decimal home.centre ∷ []

-- block <private> <hex>
abbrev pub block_words : Block → List (List ℕ)
block_words block = codes "block" ∷ private_name block.private ∷ block.hex ∷ []

-- what a line of a board names
pub data Line : Type 0 where
  HexLine : Hex → Line
  HomeLine : Home → Line
  BlockLine : Block → Line

abbrev pub SpellsLine : List (List ℕ) → Line → Type 0
SpellsLine words (HexLine hex) = SpellsHex words hex
SpellsLine words (HomeLine home) = words ≡ home_words home
SpellsLine words (BlockLine block) = words ≡ block_words block

abbrev pub hex_in : Line → Option Hex
hex_in (HexLine hex) = Some hex
hex_in _ = None

abbrev pub home_in : Line → Option Home
home_in (HomeLine home) = Some home
home_in _ = None

abbrev pub block_in : Line → Option Block
block_in (BlockLine block) = Some block
block_in _ = None

abbrev pub hexes_in : List Line → List Hex
hexes_in lines = filter_map hex_in lines

abbrev pub homes_in : List Line → List Home
homes_in lines = filter_map home_in lines

abbrev pub blocks_in : List Line → List Block
blocks_in lines = filter_map block_in lines

-- the hex of a home or a block is among these
abbrev pub HasItsHexIn : List Hex → Line → Type 0
HasItsHexIn hexes (HexLine hex) = Unit {0}
HasItsHexIn hexes (HomeLine home) = HasHex hexes home.hex
HasItsHexIn hexes (BlockLine block) = HasHex hexes block.hex

-- each home and each block stands behind the line of its hex: that is one of the lines above it
abbrev pub StandBehindTheirHexes : List Line → Type 0
StandBehindTheirHexes lines = (k : ℕ) (d : Line) → k < length lines → HasItsHexIn (hexes_in (take k lines)) (slice_index_or lines k d)
