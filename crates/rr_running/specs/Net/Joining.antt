-- The links of a network, with hexes, hexsides and centres named by their places.
use Rattle.std.specs.Prelude.{ℕ, Bool, List, [], ◌∷◌, flat_map}
use Rattle.std.specs.List.{position_or_len}
use Rattle.rr_kit.specs.declared.board.hex.Hex.{Hex}
use Rattle.rr_kit.specs.Board.Plan.{has_name}
use Rattle.rr_network.specs.declared.network.Stop.{Stop}
use Rattle.rr_network.specs.declared.node.CentreAt.{CentreAt}
use Rattle.rr_network.specs.declared.node.Hexside.{Hexside}
use Rattle.rr_network.specs.declared.node.Link.{Link}
use Rattle.rr_network.specs.declared.node.Node.{Node}
use Rattle.rr_network.specs.declared.node.Node.TheVariants.{Hexside as OfHexside, Centre as OfCentre}
use Rattle.rr_network.specs.Node.{same_centre, same_hexside}
use Rattle.rr_routes.specs.declared.net.Link.{Link as PlacedLink}
use Rattle.rr_routes.specs.declared.net.Node.{Node as PlacedNode}
use Rattle.rr_routes.specs.declared.net.Node.TheVariants.{Hexside as AtHexside, Centre as AtCentre}

-- the place on the board of the hex of that name
abbrev pub hex_place : List Hex → List ℕ → ℕ
hex_place hexes name = position_or_len (has_name name) hexes

-- the hexside, where the node is one
abbrev pub end_sides : Node → List Hexside
end_sides (OfHexside side) = side ∷ []
end_sides (OfCentre at) = []

-- the hexsides at the ends of a link
abbrev pub sides_of : Link → List Hexside
sides_of link = link.side ∷ end_sides link.end

-- the hexsides at the ends of links, one for each end
abbrev pub sides_in : List Link → List Hexside
sides_in links = flat_map sides_of links

-- A hexside is named by its first place among the hexsides at all ends: where links touch it stands more than once.
abbrev pub side_place : List Hexside → Hexside → ℕ
side_place sides side = position_or_len (same_hexside side) sides

-- the centre lies there
abbrev pub is_stop_at : CentreAt → Stop → Bool
is_stop_at at stop = same_centre stop.at at

-- the place of a centre among all
abbrev pub centre_place : List Stop → CentreAt → ℕ
centre_place stops at = position_or_len (is_stop_at at) stops

-- the node, named by its place
abbrev pub node_of : List Hexside → List Stop → Node → PlacedNode
node_of sides stops (OfHexside side) = AtHexside (side_place sides side)
node_of sides stops (OfCentre at) = AtCentre (centre_place stops at)

-- the link, with its hex and its ends named by their places
abbrev pub placed_link : List Hex → List Hexside → List Stop → Link → PlacedLink
placed_link hexes sides stops link =
    record { hex = hex_place hexes link.hex; side = side_place sides link.side; other = node_of sides stops link.end }
