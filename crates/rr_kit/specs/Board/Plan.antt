-- What a board has.
use Rattle.std.specs.Prelude.{ℕ, ◌-◌, ◌==◌, ◌&&◌, ◌||◌, not, nat_lt, Bool, true, false, List, [], ◌∷◌, length, find, count_by, if◌then◌else◌, Option, None, Some, bytes_eq}
use Rattle.std.specs.List.{list_any}
use Rattle.std.specs.Ordering.{int_eq}
use Rattle.rr_roster.specs.declared.company.Corp.{Corp}
use Rattle.rr_roster.specs.Company.{corp_index}
use Rattle.rr_tiles.specs.declared.part.Kind.{Kind}
use Rattle.rr_tiles.specs.declared.part.Kind.TheVariants.{City, OffBoard}
use Rattle.rr_tiles.specs.declared.part.Part.{Part}
use Rattle.rr_tiles.specs.declared.part.Part.TheVariants.{Track as OfTrack, Centre as OfCentre}
use Rattle.rr_kit.specs.declared.board.hex.Place.{Place}
use Rattle.rr_kit.specs.declared.board.hex.Colour.{Colour}
use Rattle.rr_kit.specs.declared.board.hex.Colour.TheVariants.{Red}
use Rattle.rr_kit.specs.declared.board.hex.Hex.{Hex}
use Rattle.rr_kit.specs.declared.board.hex.Home.{Home}
use Rattle.rr_kit.specs.declared.board.hex.Block.{Block}

-- the hexes in board order, the homes and the blocked hexes
pub record Plan : Type 0 where
  pub hexes : List Hex
  pub homes : List Home
  pub blocks : List Block

-- a board without anything
abbrev pub bare : Plan
bare = record { hexes = []; homes = []; blocks = [] }

abbrev pub same_place : Place → Place → Bool
same_place place other = int_eq place.q other.q && int_eq place.r other.r

abbrev pub has_name : List ℕ → Hex → Bool
has_name name hex = bytes_eq hex.name name

-- the hex of a name
abbrev pub hex_named : List Hex → List ℕ → Option Hex
hex_named hexes name = find (has_name name) hexes

abbrev pub is_red : Colour → Bool
is_red Red = true
is_red _ = false

abbrev pub is_off_board : Kind → Bool
is_off_board (OffBoard later) = true
is_off_board _ = false

abbrev pub is_off_board_part : Part → Bool
is_off_board_part (OfTrack track) = false
is_off_board_part (OfCentre centre) = is_off_board centre.kind

-- an off-board area stands in a red hex only
abbrev pub is_coloured_right : Hex → Bool
is_coloured_right hex = is_red hex.colour || not (list_any is_off_board_part hex.tile.parts)

abbrev pub has_same_name_or_place : Hex → Hex → Bool
has_same_name_or_place hex other = bytes_eq other.name hex.name || same_place other.place hex.place

-- at most 200 hexes, no name and no place twice
abbrev pub may_take_hex : List Hex → Hex → Bool
may_take_hex hexes hex = nat_lt (length hexes) 200 && (is_coloured_right hex && not (list_any (has_same_name_or_place hex) hexes))

-- the slots of a city
abbrev pub slots_of : Kind → Option ℕ
slots_of (City slots) = Some slots
slots_of _ = None

-- the slots of the centre of a number, from 1, where it is a city
abbrev pub slots_at : List Part → ℕ → Option ℕ
slots_at [] number = None
slots_at (OfTrack track ∷ parts) number = slots_at parts number
slots_at (OfCentre centre ∷ parts) number = if number == 1 then slots_of centre.kind else slots_at parts (number - 1)

abbrev pub is_home_of : Corp → Home → Bool
is_home_of corp home = corp_index home.corp == corp_index corp

abbrev pub is_home_at : List ℕ → ℕ → Home → Bool
is_home_at hex centre home = bytes_eq home.hex hex && home.centre == centre

-- a corporation has one home at most, and no city is home to more than it has slots
abbrev pub may_take_home : List Home → Home → ℕ → Bool
may_take_home homes home slots = not (list_any (is_home_of home.corp) homes) && nat_lt (count_by (is_home_at home.hex home.centre) homes) slots
