use Rattle.std.proofs.Common.{ap, ◌∙◌}
use Rattle.rr_turns.specs.Counts.{counts_of}
use Rattle.rr_turns.proofs.SetLemmas.{opening-counts}
use Rattle.rr_turns.proofs.ends.Ends.opening.Goals as goal

pub returns : goal.returns
returns c = ap counts_of c.of_opening.ensures ∙ opening-counts
