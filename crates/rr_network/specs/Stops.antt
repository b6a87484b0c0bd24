-- What the centres of a network are, and how many of them a board keeps.
use Rattle.std.specs.Prelude.{◌≡◌, ℕ, List, [], ◌∷◌, ◌++◌, length, All, Contains, Some}
use Rattle.rr_kit.specs.declared.board.hex.Hex.{Hex}
use Rattle.rr_kit.specs.Board.Plan.{Plan}
use Rattle.rr_tiles.specs.Keeping.{Keeps}
use Rattle.rr_tiles.specs.Sound.{IsKind, IsValue}
use Rattle.rr_tiles.specs.Supply.{supply_at}
use Rattle.rr_tiles.specs.Tile.{Face, centres_of, turned}
use Rattle.rr_tiles.specs.declared.supply.Supply.{Supply}
use Rattle.rr_desk.specs.declared.layout.layout.Lay.{Lay}
use Rattle.rr_network.specs.declared.network.Stop.{Stop}
use Rattle.rr_network.specs.Network.{face_on}

-- its values are multiples of 10 from 0 to 990, and a city has 1 to 4 slots
pub record IsStop (stop : Stop) : Type 0 where
  pub sound_kind : IsKind stop.kind
  pub sound_value : IsValue stop.value

-- how many centres a tile has
abbrev pub centre_count : Face → ℕ
centre_count face = length (centres_of face.parts)

-- each hex has as many centres as are printed on it, whatever was laid there
abbrev pub HexesKeepTheirCentres : Plan → List Supply → List Lay → Type 0
HexesKeepTheirCentres plan tiles all = All (λ hex. centre_count (face_on tiles all hex) ≡ centre_count hex.tile) plan.hexes

-- so it is before anything was laid
abbrev pub NothingLaidKeepsCentres : Type 0
NothingLaidKeepsCentres = (plan : Plan) (tiles : List Supply) → HexesKeepTheirCentres plan tiles []

-- the tile, turned, keeps what lies on the hex
abbrev pub KeepsWhatLies : Plan → List Supply → List Lay → Lay → Type 0
KeepsWhatLies plan tiles all lay =
    (hex : Hex) (supply : Supply) → Contains plan.hexes hex → hex.name ≡ lay.hex → supply_at tiles lay.tile ≡ Some supply → Keeps (face_on tiles all hex) (turned lay.turn supply.tile)

-- and so it stays, when a tile is laid that keeps what lies on its hex
abbrev pub UpgradesKeepCentres : Type 0
UpgradesKeepCentres = (plan : Plan) (tiles : List Supply) (all : List Lay) (lay : Lay) → HexesKeepTheirCentres plan tiles all → KeepsWhatLies plan tiles all lay → HexesKeepTheirCentres plan tiles (all ++ lay ∷ [])
