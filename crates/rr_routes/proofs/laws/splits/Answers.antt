use Rattle.rr_routes.proofs.Children.{AcceptsUnder-Split, node_count-Split}
use Rattle.rr_routes.proofs.laws.splits.Goals as goal

pub returns-clause-accepted : goal.returns-clause-accepted
returns-clause-accepted c = AcceptsUnder-Split

pub returns-clause-counted : goal.returns-clause-counted
returns-clause-counted c = node_count-Split
