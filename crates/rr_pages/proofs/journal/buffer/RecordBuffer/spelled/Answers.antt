use Rattle.std.proofs.Common.{arith}
use Rattle.std.proofs.lemmas.Grind.{common_steps}
use Rattle.rr_pages.specs.Journal.Layout.{spelling_behind_gate}
use Rattle.rr_pages.proofs.journal.buffer.RecordBuffer.spelled.Goals as goal

pub returns : goal.returns
unfolding spelling_behind_gate
returns c = grind (arith, common_steps)
