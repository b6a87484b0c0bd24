use Rattle.std.proofs.Common.{map}
use Rattle.rr_tiles.proofs.TileLemmas.{read-spelled, read-only}
use Rattle.rr_tiles.proofs.tile.Tile.read.Goals as goal

pub returns-clause-spelled : goal.returns-clause-spelled
returns-clause-spelled c = read-spelled (map (λ word. word.now) c.args.words.now) c.read_words.result c.read_words.ensures

pub returns-clause-only : goal.returns-clause-only
returns-clause-only c = read-only (map (λ word. word.now) c.args.words.now) c.read_words.result c.read_words.ensures
