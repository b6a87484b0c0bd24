use Rattle.std.proofs.Common.{◌≡◌, Some, map, take}
use Rattle.rr_tiles.specs.Supply.{supplies_of}
use Rattle.rr_tiles.proofs.ManifestLemmas.{words_in_row}
use Rattle.rr_tiles.proofs.manifest.Manifest.read_lines.Given as goal

abbrev pub invariant-loop-line : goal.invariant-loop-line
invariant-loop-line l = supplies_of (map words_in_row (take l.line-index l.lines)) ≡ Some l.manifest
