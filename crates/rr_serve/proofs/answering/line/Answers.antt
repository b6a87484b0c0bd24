use Rattle.std.proofs.Common.{subst}
use Rattle.rr_serve.proofs.LineLemmas.{taken-min}
use Rattle.rr_serve.proofs.answering.line.Goals as goal

pub returns-clause-answers : goal.returns-clause-answers
returns-clause-answers g c =
    subst (λ bytes. g.M.Machine.Answers c.args.machine.now bytes c.take.new.self) (taken-min c.min-known.result c.args.line.now c.min-known.ensures) c.take.ensures
