-- What lies on a hex, and what a tile needs of the board.
use Rattle.std.specs.Prelude.{ℕ, ◌+◌, ◌==◌, ◌&&◌, Bool, true, false, List, Option, None, Some, option_map, option_and_then, count_by, bytes_eq}
use Rattle.std.specs.List.{list_any, list_all}
use Rattle.std.specs.Ordering.{int_eq}
use Rattle.rr_books.specs.declared.parties.Place.{Place}
use Rattle.rr_books.specs.declared.parties.Place.TheVariants as L
use Rattle.rr_books.specs.declared.certificates.Cert.{Cert}
use Rattle.rr_books.specs.declared.certificates.Cert.TheVariants as C
use Rattle.rr_kit.specs.declared.board.hex.Place as where_on_board
use Rattle.rr_kit.specs.declared.board.hex.Colour as printed_colour
use Rattle.rr_kit.specs.declared.board.hex.Colour.TheVariants as P
use Rattle.rr_kit.specs.declared.board.hex.Hex.{Hex}
use Rattle.rr_kit.specs.declared.board.hex.Block.{Block}
use Rattle.rr_tiles.specs.declared.supply.Colour.{Colour}
use Rattle.rr_tiles.specs.declared.supply.Colour.TheVariants.{Yellow, Green, Brown}
use Rattle.rr_tiles.specs.declared.supply.Supply.{Supply}
use Rattle.rr_tiles.specs.declared.part.Part.{Part}
use Rattle.rr_tiles.specs.declared.part.Part.TheVariants.{Track as OfTrack, Centre as OfCentre}
use Rattle.rr_tiles.specs.Supply.{supply_at}
use Rattle.rr_desk.specs.declared.layout.layout.Lay.{Lay}
use Rattle.rr_network.specs.declared.node.Axial.{Axial}
use Rattle.rr_desk.specs.Layout.Layout.{last_lay}
use Rattle.rr_network.specs.Node.{across}

-- the colour of the last tile that was laid on a hex
abbrev pub laid_colour : List Supply → List Lay → List ℕ → Option Colour
laid_colour tiles lays hex = option_and_then (λ lay. option_map (λ supply. supply.colour) (supply_at tiles lay.tile)) (last_lay lays hex)

-- a grey or red hex never takes a tile
abbrev pub takes_tiles : printed_colour.Colour → Bool
takes_tiles P.Grey = false
takes_tiles P.Red = false
takes_tiles _ = true

-- white, yellow, green and brown follow one another
abbrev pub printed_rank : printed_colour.Colour → ℕ
printed_rank P.White = 0
printed_rank P.Yellow = 1
printed_rank P.Green = 2
printed_rank _ = 3

abbrev pub tile_rank : Colour → ℕ
tile_rank Yellow = 1
tile_rank Green = 2
tile_rank Brown = 3

-- of what lies on a hex: of the tile laid there, or else of what is printed
abbrev pub rank_on : printed_colour.Colour → Option Colour → ℕ
rank_on printed None = printed_rank printed
rank_on printed (Some laid) = tile_rank laid

-- the hex takes tiles, and the colour is the one that follows on what lies there
abbrev pub is_next_colour : printed_colour.Colour → Option Colour → Colour → Bool
is_next_colour printed laid colour = takes_tiles printed && tile_rank colour == rank_on printed laid + 1

abbrev pub is_lay_of : ℕ → Option Lay → Bool
is_lay_of tile None = false
is_lay_of tile (Some lay) = lay.tile == tile

-- how many hexes have this tile by their last lay
abbrev pub hexes_with : List Lay → ℕ → List Hex → ℕ
hexes_with lays tile hexes = count_by (λ hex. is_lay_of tile (last_lay lays hex.name)) hexes

abbrev pub is_player : Option Place → Bool
is_player (Some (L.Seat seat)) = true
is_player _ = false

-- the block is of this hex, and a player holds its private, which is open then
abbrev pub is_block_of : (Cert → Option Place) → List ℕ → Block → Bool
is_block_of holders hex block = bytes_eq block.hex hex && is_player (holders (C.Private block.private))

abbrev pub is_yellow : Colour → Bool
is_yellow Yellow = true
is_yellow _ = false

-- no yellow tile is laid on a hex that an open private of a player blocks
abbrev pub is_blocked : (Cert → Option Place) → List Block → List ℕ → Colour → Bool
is_blocked holders blocks hex colour = is_yellow colour && list_any (is_block_of holders hex) blocks

abbrev pub is_there : Axial → Hex → Bool
is_there at hex = int_eq hex.place.q at.q && int_eq hex.place.r at.r

-- a hex of the board lies across the edge
abbrev pub faces_hex : List Hex → where_on_board.Place → ℕ → Bool
faces_hex hexes place edge = list_any (is_there (across place edge)) hexes

abbrev pub part_faces_hexes : List Hex → where_on_board.Place → Part → Bool
part_faces_hexes hexes place (OfTrack track) = faces_hex hexes place track.from && faces_hex hexes place track.to
part_faces_hexes hexes place (OfCentre centre) = list_all (faces_hex hexes place) centre.edges

-- each edge that the parts use faces a hex of the board
abbrev pub faces_hexes : List Hex → where_on_board.Place → List Part → Bool
faces_hexes hexes place parts = list_all (part_faces_hexes hexes place) parts
