use Rattle.std.proofs.Common.{◌≡◌, map, take}
use Rattle.rr_tiles.specs.Tile.{turned_part}
use Rattle.rr_tiles.proofs.tile.Tile.turned.Given as goal

abbrev pub invariant-loop-part : goal.invariant-loop-part
invariant-loop-part l = l.parts.items ≡ map (turned_part l.turn) (take l.part-index l.part-items)
