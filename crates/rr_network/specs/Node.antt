-- Hexsides, centres and the links between them.
use Rattle.std.specs.Prelude.{ℕ, ◌-◌, ◌==◌, ◌&&◌, nat_lt, Bool, false, if◌then◌else◌, bytes_eq, pos, ◌+ℤ◌, ◌-ℤ◌}
use Rattle.std.specs.Ordering.{int_eq}
use Rattle.rr_kit.specs.declared.board.hex.Place.{Place}
use Rattle.rr_network.specs.declared.node.Axial.{Axial}
use Rattle.rr_network.specs.declared.node.Hexside.{Hexside}
use Rattle.rr_network.specs.declared.node.CentreAt.{CentreAt}
use Rattle.rr_network.specs.declared.node.Node.{Node}
use Rattle.rr_network.specs.declared.node.Node.TheVariants.{Hexside as OfHexside, Centre as OfCentre}

-- the place across an edge
abbrev pub across : Place → ℕ → Axial
across place edge =
    if edge == 0 then record { q = place.q; r = place.r +ℤ pos 1 }
    else if edge == 1 then record { q = place.q -ℤ pos 1; r = place.r +ℤ pos 1 }
    else if edge == 2 then record { q = place.q -ℤ pos 1; r = place.r }
    else if edge == 3 then record { q = place.q; r = place.r -ℤ pos 1 }
    else if edge == 4 then record { q = place.q +ℤ pos 1; r = place.r -ℤ pos 1 }
    else record { q = place.q +ℤ pos 1; r = place.r }

-- An edge and the edge across it, which is three further on, are one hexside: that of the lower number
-- stands for both.
abbrev pub hexside_at : Place → ℕ → Hexside
hexside_at place edge =
    if nat_lt edge 3 then record { at = record { q = place.q; r = place.r }; edge = edge }
    else record { at = across place edge; edge = edge - 3 }

abbrev pub same_hexside : Hexside → Hexside → Bool
same_hexside side other = int_eq side.at.q other.at.q && (int_eq side.at.r other.at.r && side.edge == other.edge)

abbrev pub same_centre : CentreAt → CentreAt → Bool
same_centre centre other = bytes_eq centre.hex other.hex && centre.number == other.number

abbrev pub same_node : Node → Node → Bool
same_node (OfHexside side) (OfHexside other) = same_hexside side other
same_node (OfCentre centre) (OfCentre other) = same_centre centre other
same_node _ _ = false
