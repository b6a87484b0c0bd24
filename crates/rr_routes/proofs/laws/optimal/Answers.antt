use Rattle.rr_routes.proofs.Optimality.{accepted_most, accepted_optimal}
use Rattle.rr_routes.proofs.laws.optimal.Goals as goal

pub returns-clause-most : goal.returns-clause-most
returns-clause-most c = accepted_most

pub returns-clause-optimal : goal.returns-clause-optimal
returns-clause-optimal c = accepted_optimal
