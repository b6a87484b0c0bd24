use Rattle.std.proofs.Common.{arith}
use Rattle.std.proofs.lemmas.List.{take_all, length-take-le}
use Rattle.rr_serve.specs.Lines.{taken}
use Rattle.rr_serve.proofs.laws.taking.Goals as goal

pub returns-clause-whole : goal.returns-clause-whole
unfolding taken
returns-clause-whole c = λ line fits. take_all 32001 line (omega arith)

pub returns-clause-too_long : goal.returns-clause-too_long
unfolding taken
returns-clause-too_long c = λ line long. length-take-le 32001 line (omega arith)
