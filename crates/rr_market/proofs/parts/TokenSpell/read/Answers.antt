use Rattle.rr_market.specs.Parts.{cells_of}
use Rattle.rr_market.proofs.parts.TokenSpell.read.Goals as goal

pub returns-in_err-cells : goal.returns-in_err-cells
returns-in_err-cells c = rw c.from_residual.ensures (λ token rest fits same. c.in_err-cells.ensures (cells_of token) rest fits same)
