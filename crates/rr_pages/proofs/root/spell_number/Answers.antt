use Rattle.std.proofs.Common.{arith}
use Rattle.std.proofs.lemmas.Grind.{common_steps}
use Rattle.rr_pages.specs.Roots.{root_bytes}
use Rattle.rr_pages.proofs.root.spell_number.Goals as goal

pub returns : goal.returns
unfolding root_bytes
returns c = grind (arith, common_steps)
