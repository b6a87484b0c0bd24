use Rattle.std.proofs.Common.{length}
use Rattle.rr_tiles.proofs.keeping.+keeps_centres.Given as goal

abbrev pub decreases-keeps_centres : goal.decreases-keeps_centres
decreases-keeps_centres l = length l.old.now
