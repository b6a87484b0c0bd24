use Rattle.rr_routes.proofs.Rows.{two_earns, three_earns, unlimited_optimal, three_refused}
use Rattle.rr_routes.proofs.ThirtyRow.{thirty_shown, twenty_refused}
use Rattle.rr_routes.proofs.laws.worked_rows.Goals as goal

pub returns-clause-two : goal.returns-clause-two
returns-clause-two c = two_earns

pub returns-clause-three : goal.returns-clause-three
returns-clause-three c = three_earns

pub returns-clause-unlimited : goal.returns-clause-unlimited
returns-clause-unlimited c = unlimited_optimal

pub returns-clause-not_bounded : goal.returns-clause-not_bounded
returns-clause-not_bounded c = three_refused

pub returns-clause-shown : goal.returns-clause-shown
returns-clause-shown c = thirty_shown

pub returns-clause-too_little : goal.returns-clause-too_little
returns-clause-too_little c = twenty_refused
