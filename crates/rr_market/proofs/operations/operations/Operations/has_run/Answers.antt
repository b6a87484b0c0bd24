use Rattle.std.proofs.Common.{ap}
use Rattle.rr_market.specs.Operations.Due.{OnRounds}
use Rattle.rr_market.proofs.OperationsLemmas.ProgressLemmas.{has_run-by}
use Rattle.rr_market.proofs.operations.operations.Operations.has_run.Goals as goal

pub returns-clause-book : goal.returns-clause-book
returns-clause-book c book h =
    has_run-by book c.args.self.now.progress c.self.inside.has_run (ap (λ (o : OnRounds). o.progress.has_run) c.self.view_is) h.progress
