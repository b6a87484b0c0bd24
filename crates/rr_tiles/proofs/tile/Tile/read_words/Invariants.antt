use Rattle.std.proofs.Common.{◌≡◌, Some, map, take}
use Rattle.rr_tiles.specs.Reading.{tile_of}
use Rattle.rr_tiles.proofs.tile.Tile.read_words.Given as goal

abbrev pub invariant-loop-word : goal.invariant-loop-word
invariant-loop-word l = tile_of (map (λ word. word.now) (take l.word-index l.words)) ≡ Some l.tile
