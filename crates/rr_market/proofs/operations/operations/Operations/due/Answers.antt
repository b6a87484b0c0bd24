use Rattle.std.proofs.Common.{◌∙◌}
use Rattle.rr_market.proofs.OperationsLemmas.DueLemmas.{due-shown}
use Rattle.rr_market.proofs.operations.operations.Operations.due.Goals as goal

pub returns-clause-book : goal.returns-clause-book
returns-clause-book c book h = c.due_shown.ensures ∙ due-shown c.args.chart.now book c.args.self.now h
