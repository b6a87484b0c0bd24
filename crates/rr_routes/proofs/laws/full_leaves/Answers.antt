use Rattle.rr_routes.proofs.SameLinks.{full_none, full_one}
use Rattle.rr_routes.proofs.laws.full_leaves.Goals as goal

pub returns-clause-no_run : goal.returns-clause-no_run
returns-clause-no_run c = full_none

pub returns-clause-one_run : goal.returns-clause-one_run
returns-clause-one_run c = full_one
