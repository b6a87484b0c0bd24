use Rattle.rr_referee.proofs.LawLemmas.{one_run, none_broken, one_clause}
use Rattle.rr_referee.proofs.laws.sheets.Goals as goal

pub returns-clause-one_run : goal.returns-clause-one_run
returns-clause-one_run c = one_run

pub returns-clause-none_broken : goal.returns-clause-none_broken
returns-clause-none_broken c = none_broken

pub returns-clause-one_clause : goal.returns-clause-one_clause
returns-clause-one_clause c = one_clause
