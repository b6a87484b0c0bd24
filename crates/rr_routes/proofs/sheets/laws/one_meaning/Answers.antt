use Rattle.rr_routes.proofs.SheetsLemmas.SameLemmas.{one_certificate, accepted_also}
use Rattle.rr_routes.proofs.SheetsLemmas.SheetLemmas.{one_sheet}
use Rattle.rr_routes.proofs.sheets.laws.one_meaning.Goals as goal

pub returns : goal.returns
returns c = record { sheet = one_sheet; certificate = one_certificate; accepted = accepted_also }
