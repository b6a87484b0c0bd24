use Rattle.rr_routes.proofs.SameLinks.{same_worth, same_earned}
use Rattle.rr_routes.proofs.SameWay.{one_path}
use Rattle.rr_routes.proofs.laws.same_links.Goals as goal

pub returns-clause-one_path : goal.returns-clause-one_path
returns-clause-one_path c = one_path

pub returns-clause-paths : goal.returns-clause-paths
returns-clause-paths c = same_worth

pub returns-clause-runs : goal.returns-clause-runs
returns-clause-runs c = same_earned
