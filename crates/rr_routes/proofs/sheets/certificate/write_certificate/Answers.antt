use Rattle.std.proofs.Common.{rules}
use Rattle.rr_routes.specs.Sheets.Certificate.{certificate_text}
use Rattle.rr_routes.proofs.sheets.certificate.write_certificate.Goals as goal

pub returns-clause-text : goal.returns-clause-text
unfolding certificate_text
returns-clause-text c = search rules
