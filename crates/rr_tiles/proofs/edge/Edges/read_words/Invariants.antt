use Rattle.std.proofs.Common.{◌≡◌, Some, map, take}
use Rattle.rr_tiles.specs.Edge.{edges_in}
use Rattle.rr_tiles.proofs.edge.Edges.read_words.Given as goal

abbrev pub invariant-loop-word : goal.invariant-loop-word
invariant-loop-word l = edges_in (map (λ word. word.now) (take l.word-index l.words)) ≡ Some l.edges
