use Rattle.rr_routes.proofs.Refusals.{many_centres, no_token, filled_city, no_turn, shared_side}
use Rattle.rr_routes.proofs.laws.refused_rows.Goals as goal

pub returns-clause-too_many_centres : goal.returns-clause-too_many_centres
returns-clause-too_many_centres c = many_centres

pub returns-clause-no_token : goal.returns-clause-no_token
returns-clause-no_token c = no_token

pub returns-clause-filled_city : goal.returns-clause-filled_city
returns-clause-filled_city c = filled_city

pub returns-clause-no_turn : goal.returns-clause-no_turn
returns-clause-no_turn c = no_turn

pub returns-clause-shared_side : goal.returns-clause-shared_side
returns-clause-shared_side c = shared_side
