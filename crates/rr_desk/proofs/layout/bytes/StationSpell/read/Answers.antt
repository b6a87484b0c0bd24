use Rattle.rr_desk.proofs.layout.bytes.StationSpell.read.Goals as goal

pub returns-in_err-row : goal.returns-in_err-row
returns-in_err-row c = rw c.from_residual.ensures (λ parts rest fits same. c.in_err-row.ensures (parts.corp, (parts.hex, parts.centre)) rest fits same)
