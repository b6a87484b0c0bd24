use Rattle.rr_referee.proofs.LawLemmas.{most_of_all, best_run}
use Rattle.rr_referee.proofs.laws.optimal.Goals as goal

pub returns-clause-run : goal.returns-clause-run
returns-clause-run c = best_run

pub returns-clause-sheets : goal.returns-clause-sheets
returns-clause-sheets c = most_of_all
