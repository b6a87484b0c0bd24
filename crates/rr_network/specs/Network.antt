-- The network that lies on a board.
use Rattle.std.specs.Prelude.{◌≡◌, ℕ, ◌+◌, List, [], ◌∷◌, ◌++◌, map, Option, option_map, option_and_then, unwrap_or, flat_map}
use Rattle.std.proofs.Common.{sym, ◌∙◌, ap}
use Rattle.rr_books.specs.Book.{Book}
use Rattle.rr_kit.specs.declared.board.hex.Place.{Place}
use Rattle.rr_kit.specs.declared.board.hex.Hex.{Hex}
use Rattle.rr_kit.specs.Board.Plan.{Plan}
use Rattle.rr_tiles.specs.Tile.{Face, turned}
use Rattle.rr_tiles.specs.Supply.{supply_at}
use Rattle.rr_tiles.specs.declared.supply.Supply.{Supply}
use Rattle.rr_tiles.specs.declared.part.Track.{Track}
use Rattle.rr_tiles.specs.declared.part.Part.{Part}
use Rattle.rr_tiles.specs.declared.part.Part.TheVariants.{Track as OfTrack, Centre as OfCentre}
use Rattle.rr_desk.specs.declared.layout.layout.Lay.{Lay}
use Rattle.rr_desk.specs.declared.layout.layout.Station.{Station}
use Rattle.rr_network.specs.declared.node.Link.{Link}
use Rattle.rr_network.specs.declared.node.Node.{Node}
use Rattle.rr_network.specs.declared.node.Node.TheVariants.{Hexside, Centre}
use Rattle.rr_network.specs.declared.network.Stop.{Stop}
use Rattle.rr_network.specs.Node.{hexside_at}
use Rattle.rr_desk.specs.Layout.Layout.{Placed, IsLayoutOf, lays, stations, last_lay}

-- the links, the centres and the tokens on a board
pub record Net : Type 0 where
  pub links : List Link
  pub stops : List Stop
  pub stations : List Station

-- a track joins two hexsides
abbrev pub track_link : List ℕ → Place → Track → Link
track_link hex place track = record { hex = hex; side = hexside_at place track.from; end = Hexside (hexside_at place track.to) }

-- an edge of a centre joins a hexside to it
abbrev pub edge_link : List ℕ → Place → Node → ℕ → Link
edge_link hex place centre edge = record { hex = hex; side = hexside_at place edge; end = centre }

-- the links of a part that stands behind so many centres
abbrev pub links_of : List ℕ → Place → ℕ → Part → List Link
links_of hex place seen (OfTrack track) = track_link hex place track ∷ []
links_of hex place seen (OfCentre centre) = map (edge_link hex place (Centre (record { hex = hex; number = seen + 1 }))) centre.edges

abbrev pub stops_of : List ℕ → ℕ → Part → List Stop
stops_of hex seen (OfTrack track) = []
stops_of hex seen (OfCentre centre) = record { at = record { hex = hex; number = seen + 1 }; kind = centre.kind; value = centre.value } ∷ []

abbrev pub seen_after : ℕ → Part → ℕ
seen_after seen (OfTrack track) = seen
seen_after seen (OfCentre centre) = seen + 1

-- the links of parts, in their order, behind so many centres
unfoldable pub links_in : List ℕ → Place → ℕ → List Part → List Link
links_in hex place seen [] = []
links_in hex place seen (part ∷ parts) = links_of hex place seen part ++ links_in hex place (seen_after seen part) parts

-- the centres among parts, numbered in their order
unfoldable pub stops_in : List ℕ → ℕ → List Part → List Stop
stops_in hex seen [] = []
stops_in hex seen (part ∷ parts) = stops_of hex seen part ++ stops_in hex (seen_after seen part) parts

abbrev pub laid : List Supply → Lay → Option Face
laid tiles lay = option_map (λ supply. turned lay.turn supply.tile) (supply_at tiles lay.tile)

-- what lies on a hex: the last tile laid there, turned, or else what the board has there
abbrev pub face_on : List Supply → List Lay → Hex → Face
face_on tiles all hex = unwrap_or (option_and_then (laid tiles) (last_lay all hex.name)) hex.tile

abbrev pub hex_links : List Supply → List Lay → Hex → List Link
hex_links tiles all hex = links_in hex.name hex.place 0 (face_on tiles all hex).parts

abbrev pub hex_stops : List Supply → List Lay → Hex → List Stop
hex_stops tiles all hex = stops_in hex.name 0 (face_on tiles all hex).parts

-- the network on a board on which this was put
abbrev pub net_of : Plan → List Supply → Placed → Net
net_of plan tiles placed = record {
  links = flat_map (hex_links tiles placed.lays) plan.hexes;
  stops = flat_map (hex_stops tiles placed.lays) plan.hexes;
  stations = placed.stations;
}

-- the network of a book
abbrev pub network : Plan → List Supply → Book → Net
network plan tiles book = net_of plan tiles (record { lays = lays book; stations = stations book })

-- the network has these links and centres more
pub record AddsHex (old new : Net) (links : List Link) (stops : List Stop) : Type 0 where
  pub more_links : new.links ≡ old.links ++ links
  pub more_stops : new.stops ≡ old.stops ++ stops
  pub same_stations : new.stations ≡ old.stations

-- what was put on a board by a book makes the network of the book
pub network_of_book : (plan : Plan) (tiles : List Supply) (book : Book) (placed : Placed) → IsLayoutOf book placed → net_of plan tiles placed ≡ network plan tiles book
network_of_book plan tiles book placed h =
    let put : List Lay → List Station → Placed = λ ls ss. record { lays = ls; stations = ss } in
    ap (λ (ls : List Lay). net_of plan tiles (put ls placed.stations)) (sym h.tiles)
    ∙ ap (λ (ss : List Station). net_of plan tiles (put (lays book) ss)) (sym h.tokens)
