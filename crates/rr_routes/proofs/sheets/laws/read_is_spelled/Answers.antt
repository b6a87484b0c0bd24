use Rattle.rr_routes.proofs.SheetsLemmas.FormLemmas.{read_exactly, sheet_in-spelled}
use Rattle.rr_routes.proofs.sheets.laws.read_is_spelled.Goals as goal

pub returns : goal.returns
returns c = record { read = read_exactly; words = sheet_in-spelled }
