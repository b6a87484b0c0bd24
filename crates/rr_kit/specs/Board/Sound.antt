-- What a board may have.
use Rattle.std.specs.Prelude.{◌≡◌, ◌≢◌, ℕ, ◌+◌, ◌≤◌, ℤ, pos, negsuc, true, List, length, count_by, sum_by, All, AllPairs, Any, Contains, Some}
use Rattle.std.specs.List.{list_any}
use Rattle.rr_words.specs.Name.{IsHexName}
use Rattle.rr_tiles.specs.Sound.{IsTile}
use Rattle.rr_tiles.specs.Tile.{centres_of}
use Rattle.rr_kit.specs.declared.board.hex.TheConstants.{GREATEST_CENTRE, MOST_CENTRES}
use Rattle.rr_kit.specs.declared.board.hex.Colour.TheVariants.{Red}
use Rattle.rr_kit.specs.declared.board.hex.Hex.{Hex}
use Rattle.rr_kit.specs.declared.board.hex.Home.{Home}
use Rattle.rr_kit.specs.Board.Plan.{Plan, is_home_at, is_off_board_part, slots_at}

-- from -50 to 50
abbrev pub IsCoordinate : ℤ → Type 0
IsCoordinate (pos n) = n ≤ 50
IsCoordinate (negsuc n) = n + 1 ≤ 50

-- a name of one to four capital letters or digits, a place within 50 of the middle, a cost of at most 500, and
-- off-board areas in red hexes only
pub record IsHex (hex : Hex) : Type 0 where
  pub sound_name : IsHexName hex.name
  pub column : IsCoordinate hex.place.q
  pub row : IsCoordinate hex.place.r
  pub cost_to_500 : hex.cost ≤ 500
  pub sound_tile : IsTile hex.tile
  pub off_board_in_red : list_any is_off_board_part hex.tile.parts ≡ true → hex.colour ≡ Red

abbrev pub HaveDifferentNames : Hex → Hex → Type 0
HaveDifferentNames hex other = hex.name ≢ other.name

abbrev pub HaveDifferentPlaces : Hex → Hex → Type 0
HaveDifferentPlaces hex other = hex.place ≢ other.place

abbrev pub AreOfDifferentCorps : Home → Home → Type 0
AreOfDifferentCorps home other = home.corp ≢ other.corp

-- one of the hexes has the name
abbrev pub HasHex : List Hex → List ℕ → Type 0
HasHex hexes name = Any (λ hex. hex.name ≡ name) hexes

-- The home is a city of the board, and home to no more corporations than it has slots. Its number is from 1 to
-- `GREATEST_CENTRE`.
pub record IsFairHome (plan : Plan) (home : Home) : Type 0 where
  pub hex : Hex
  pub slots : ℕ
  pub on_board : Contains plan.hexes hex
  pub named : hex.name ≡ home.hex
  pub from_1 : 1 ≤ home.centre
  pub to_greatest : home.centre ≤ GREATEST_CENTRE
  pub city : slots_at hex.tile.parts home.centre ≡ Some slots
  pub room : count_by (is_home_at home.hex home.centre) plan.homes ≤ slots

-- at most 200 sound hexes, no name and no place twice, and homes in cities of the board, one a corporation at most
pub record IsBoard (plan : Plan) : Type 0 where
  pub to_200 : length plan.hexes ≤ 200
  pub sound_hexes : All IsHex plan.hexes
  pub names_once : AllPairs HaveDifferentNames plan.hexes
  pub places_once : AllPairs HaveDifferentPlaces plan.hexes
  pub fair_homes : All (IsFairHome plan) plan.homes
  pub one_home_each : AllPairs AreOfDifferentCorps plan.homes

-- how many centres are printed on the hexes
abbrev pub centres_on : List Hex → ℕ
centres_on hexes = sum_by (λ hex. length (centres_of hex.tile.parts)) hexes

-- a board with a hex, and with no more centres than a text has bytes
pub record IsWholeBoard (plan : Plan) : Type 0 where
  pub is_board : IsBoard plan
  pub some_hex : 1 ≤ length plan.hexes
  pub few_centres : centres_on plan.hexes ≤ MOST_CENTRES
