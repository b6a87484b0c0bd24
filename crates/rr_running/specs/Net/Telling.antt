-- That places tell hexsides, centres and hexes apart.
use Rattle.std.specs.Prelude.{◌≡◌, ℕ, ◌⊎◌, ◌↔◌, List, Contains}
use Rattle.rr_kit.specs.declared.board.hex.Hex.{Hex}
use Rattle.rr_network.specs.declared.network.Stop.{Stop}
use Rattle.rr_network.specs.declared.node.CentreAt.{CentreAt}
use Rattle.rr_network.specs.declared.node.Hexside.{Hexside}
use Rattle.rr_network.specs.declared.node.Link.{Link}
use Rattle.rr_network.specs.declared.node.Node.TheVariants.{Hexside as OfHexside}
use Rattle.rr_running.specs.Net.Joining.{centre_place, hex_place, side_place, sides_in}

-- one of the links ends at the hexside
pub record Touch (links : List Link) (side : Hexside) : Type 0 where
  pub link : Link
  pub among : Contains links link
  pub there : (side ≡ link.side) ⊎ (link.end ≡ OfHexside side)

-- the board has a hex of that name
pub record IsOnBoard (hexes : List Hex) (name : List ℕ) : Type 0 where
  pub hex : Hex
  pub among : Contains hexes hex
  pub named : hex.name ≡ name

-- one of the centres lies there
pub record HasCentre (stops : List Stop) (at : CentreAt) : Type 0 where
  pub stop : Stop
  pub among : Contains stops stop
  pub there : stop.at ≡ at

-- hexsides at which links end have one number exactly where they are one hexside
abbrev pub HexsidesAreToldApart : Type 0
HexsidesAreToldApart = (links : List Link) (side other : Hexside) → Touch links side → Touch links other
    → (side_place (sides_in links) side ≡ side_place (sides_in links) other) ↔ (side ≡ other)

-- centres have one number exactly where they are one
abbrev pub CentresAreToldApart : Type 0
CentresAreToldApart = (stops : List Stop) (at other : CentreAt) → HasCentre stops at → HasCentre stops other
    → (centre_place stops at ≡ centre_place stops other) ↔ (at ≡ other)

-- names of hexes have one place exactly where they are one name
abbrev pub HexesAreToldApart : Type 0
HexesAreToldApart = (hexes : List Hex) (name other : List ℕ) → IsOnBoard hexes name → IsOnBoard hexes other
    → (hex_place hexes name ≡ hex_place hexes other) ↔ (name ≡ other)
