use Rattle.rr_rules.specs.Parts.{row_of}
use Rattle.rr_rules.proofs.parts.StandingPartsSpell.read.Goals as goal

pub returns-in_err-row : goal.returns-in_err-row
returns-in_err-row c = rw c.from_residual.ensures (λ parts rest fits same. c.in_err-row.ensures (row_of parts) rest fits same)
