-- When a corporation may lay a tile, and what that adds to the book.
use Rattle.std.specs.Prelude.{◌≡◌, ℕ, ◌+◌, ◌&&◌, ◌||◌, not, nat_le, Bool, false, true, List, [], ◌∷◌, ◌++◌, Option, None, Some, slice_index_or, length, ◌<◌, bytes_eq, if◌then◌else◌}
use Rattle.std.specs.List.{list_any}
use Rattle.rr_roster.specs.declared.company.Corp.{Corp}
use Rattle.rr_books.specs.declared.acts.Act.TheVariants as A
use Rattle.rr_books.specs.declared.entries.Entry.TheVariants as E
use Rattle.rr_kit.specs.declared.board.hex.Hex.{Hex}
use Rattle.rr_kit.specs.Board.Plan.{Plan, hex_named}
use Rattle.rr_tiles.specs.declared.supply.Supply.{Supply}
use Rattle.rr_tiles.specs.Supply.{supply_at}
use Rattle.rr_tiles.specs.Tile.{turned}
use Rattle.rr_tiles.specs.Keeping.{Keeps}
use Rattle.rr_desk.specs.declared.layout.layout.Lay.{Lay}
use Rattle.rr_network.specs.declared.node.Link.{Link}
use Rattle.rr_network.specs.declared.node.Node.{Node}
use Rattle.rr_network.specs.declared.node.Node.TheVariants as N
use Rattle.rr_desk.specs.Layout.Layout.{last_lay, lays}
use Rattle.rr_network.specs.Network.{Net, face_on, net_of}
use Rattle.rr_network.specs.Node.{same_node}
use Rattle.rr_network.specs.Walk.{ReachesLink, Reached, reaches_link}
use Rattle.rr_market.specs.Operations.Phases.{phase}
use Rattle.rr_books.specs.declared.refusal.Refusal.{Refusal}
use Rattle.rr_books.specs.declared.refusal.Refusal.TheVariants as F
use Rattle.rr_lay.specs.Judging.{After, Needs}
use Rattle.rr_lay.specs.Phase.{is_open}
use Rattle.rr_lay.specs.Position.{Position}
use Rattle.rr_lay.specs.Costs.{cost_verdict, puts}
use Rattle.rr_desk.specs.Effects.{Effect}
use Rattle.rr_lay.specs.Tiles.{faces_hexes, hexes_with, is_blocked, is_next_colour, laid_colour}

-- the colour is open and the next one on the hex, a tile is left, and nothing blocks the hex
abbrev pub supply_verdict : Plan → List Supply → Position → Hex → Supply → Option Refusal
supply_verdict plan tiles now hex supply =
    if not (is_open (phase now.trains) supply.colour) then Some F.ColourNotOpen
    else if not (is_next_colour hex.colour (laid_colour tiles now.lays hex.name) supply.colour) then Some F.ColourNotOpen
    else if nat_le supply.count (hexes_with now.lays supply.number plan.hexes) then Some F.TileGone
    else if is_blocked now.holders plan.blocks hex.name supply.colour then Some F.BlockedHex
    else None

-- the checks that come before any that takes memory: there are such a hex and such a tile, and the supply's
abbrev pub first_verdict : Plan → List Supply → Position → Option Hex → Option Supply → Option Refusal
first_verdict plan tiles now None supply = Some F.NoSuchName
first_verdict plan tiles now (Some hex) None = Some F.NoSuchName
first_verdict plan tiles now (Some hex) (Some supply) = supply_verdict plan tiles now hex supply

abbrev pub first_lay_verdict : Plan → List Supply → Position → Lay → Option Refusal
first_lay_verdict plan tiles now lay = first_verdict plan tiles now (hex_named plan.hexes lay.hex) (supply_at tiles lay.tile)

-- the turned tile keeps what lies on the hex, and each edge that it uses faces a hex
pub record IsUpgrade (plan : Plan) (tiles : List Supply) (lays : List Lay) (hex : Hex) (supply : Supply) (turn : ℕ) : Type 0 where
  pub keeps : Keeps (face_on tiles lays hex) (turned turn supply.tile)
  pub faces : faces_hexes plan.hexes hex.place (turned turn supply.tile).parts ≡ true

-- a link is known by its hex and its two ends
abbrev pub joins : Link → Node → Node → Bool
joins link one other = same_node (N.Hexside link.side) one && same_node link.end other

abbrev pub same_link : Link → Link → Bool
same_link link other = bytes_eq link.hex other.hex && (joins link (N.Hexside other.side) other.end || joins link other.end (N.Hexside other.side))

abbrev pub has_link : List Link → Link → Bool
has_link links link = list_any (same_link link) links

-- the corporation reaches a link of the new network that the old one doesn't have
pub record ReachesNewLink (old new : Net) (corp : Corp) : Type 0 where
  pub place : ℕ
  pub link : Link
  pub inside : place < length new.links
  pub here : slice_index_or new.links place link ≡ link
  pub is_new : has_link old.links link ≡ false
  pub reached : ReachesLink new corp (place + 1)

-- the link at a place is one of the hex, is reached, and isn't among the old ones
abbrev pub is_new_link : Reached → List Link → List ℕ → ℕ → Link → Bool
is_new_link reached old hex place link = bytes_eq link.hex hex && (reaches_link reached (place + 1) && not (has_link old link))

-- one of the links is one of the hex, is reached, and isn't among the old ones
pub record HasNewLink (reached : Reached) (old : List Link) (hex : List ℕ) (links : List Link) : Type 0 where
  pub place : ℕ
  pub link : Link
  pub inside : place < length links
  pub here : slice_index_or links place link ≡ link
  pub passes : is_new_link reached old hex place link ≡ true

-- the network of a position, and with one tile more
abbrev pub net_now : Plan → List Supply → Position → Net
net_now plan tiles now = net_of plan tiles (record { lays = now.lays; stations = now.stations })

abbrev pub net_with : Plan → List Supply → Position → Lay → Net
net_with plan tiles now lay = net_of plan tiles (record { lays = now.lays ++ lay ∷ []; stations = now.stations })

-- what the tile costs: the first one on a hex costs what the board says
abbrev pub lay_cost : List Lay → Hex → Option ℕ
lay_cost all hex = cost_after (last_lay all hex.name) hex
  where
    cost_after : Option Lay → Hex → Option ℕ
    cost_after None hex = Some hex.cost
    cost_after (Some lay) hex = None

-- the verdict on a tile, of this hex and this supply
abbrev pub IsVerdictOn : Plan → List Supply → Position → Corp → Lay → Hex → Supply → Option Refusal → Type 0
IsVerdictOn plan tiles now corp lay hex supply =
    After (supply_verdict plan tiles now hex supply)
    (Needs (IsUpgrade plan tiles now.lays hex supply lay.turn) F.NotAnUpgrade
    (Needs (ReachesNewLink (net_now plan tiles now) (net_with plan tiles now lay) corp) F.NotReached
    (λ verdict. verdict ≡ cost_verdict now.cash corp (lay_cost now.lays hex))))

abbrev pub IsVerdictAt : Plan → List Supply → Position → Corp → Lay → Option Hex → Option Supply → Option Refusal → Type 0
IsVerdictAt plan tiles now corp lay None supply verdict = verdict ≡ Some F.NoSuchName
IsVerdictAt plan tiles now corp lay (Some hex) None verdict = verdict ≡ Some F.NoSuchName
IsVerdictAt plan tiles now corp lay (Some hex) (Some supply) verdict = IsVerdictOn plan tiles now corp lay hex supply verdict

-- the verdict on a corporation's laying a tile: the first check that fails, if one does
abbrev pub IsLayVerdict : Plan → List Supply → Position → Corp → Lay → Option Refusal → Type 0
IsLayVerdict plan tiles now corp lay verdict = IsVerdictAt plan tiles now corp lay (hex_named plan.hexes lay.hex) (supply_at tiles lay.tile) verdict

-- what the tile costs on that hex, if it is one
abbrev pub cost_at : List Lay → Option Hex → Option ℕ
cost_at all None = None
cost_at all (Some hex) = lay_cost all hex

-- what laying the tile adds: the command's words, the payment of the cost where it is the first tile there, and the tile
abbrev pub lays_tile : Plan → Corp → Lay → Effect
lays_tile plan corp lay book = puts (A.Lay corp lay.hex lay.tile lay.turn) corp (cost_at (lays book) (hex_named plan.hexes lay.hex)) (E.Lay lay.hex lay.tile lay.turn) book
