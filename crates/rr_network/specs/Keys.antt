-- Keys by which an index has nodes and hexes.
use Rattle.std.specs.Prelude.{ℕ, ◌+◌, ◌*◌, ◌%◌, List, ℤ, pos, negsuc}
use Rattle.std.specs.List.{fold}
use Rattle.rr_network.specs.declared.key.TheConstants.{PART_BOUND, PART_WEIGHT}
use Rattle.rr_network.specs.declared.node.Hexside.{Hexside}
use Rattle.rr_network.specs.declared.node.CentreAt.{CentreAt}
use Rattle.rr_network.specs.declared.node.Node.{Node}
use Rattle.rr_network.specs.declared.node.Node.TheVariants.{Hexside as OfHexside, Centre as OfCentre}

-- a key with one part more
abbrev pub joined : ℕ → ℕ → ℕ
joined key part = key % PART_BOUND * PART_WEIGHT + part % PART_BOUND

-- the numbers on both sides of 0 in turn
abbrev pub zigzag : ℤ → ℕ
zigzag (pos n) = 2 * n
zigzag (negsuc n) = 2 * n + 1

abbrev pub name_key : List ℕ → ℕ
name_key name = fold joined 0 name

abbrev pub centre_key : CentreAt → ℕ
centre_key centre = joined (name_key centre.hex) centre.number

abbrev pub hexside_key : Hexside → ℕ
hexside_key side = joined (joined (zigzag side.at.q) (zigzag side.at.r)) side.edge

abbrev pub node_key : Node → ℕ
node_key (OfHexside side) = hexside_key side
node_key (OfCentre centre) = centre_key centre
