use Rattle.rr_routes.proofs.SheetsLemmas.SameLemmas.{accepted_spelled}
use Rattle.rr_routes.proofs.sheets.laws.accepted_is_spelled.Goals as goal

pub returns : goal.returns
returns c = accepted_spelled
