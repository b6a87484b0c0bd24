use Rattle.std.proofs.Common.{length}
use Rattle.rr_tiles.proofs.keeping.+first_centre.Given as goal

abbrev pub decreases-first_centre : goal.decreases-first_centre
decreases-first_centre l = length l.parts.now
