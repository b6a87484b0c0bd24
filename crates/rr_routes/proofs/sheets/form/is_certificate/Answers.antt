use Rattle.std.proofs.Common.{◌<◌, length, sym, subst, ◌∙◌, arith}
use Rattle.std.specs.Bool.{Decides}
use Rattle.std.proofs.lemmas.Grind.{common_steps}
use Rattle.rr_routes.specs.Sheets.Certificate.{HasForm}
use Rattle.rr_routes.proofs.SheetsLemmas.FormLemmas.{certificate_told, form_decided}
use Rattle.rr_routes.proofs.sheets.form.is_certificate.Goals as goal

pub returns-clause-read : goal.returns-clause-read
returns-clause-read c =
    let told = c.is_empty.ensures in
    let tested = c.if-is_empty.false in
    let some : 0 < length c.args.text.now = grind (arith, common_steps) in
    c.are_certificate_words.ensures ∙ certificate_told c.args.text.now some

pub returns-clause-form : goal.returns-clause-form
returns-clause-form c =
    subst (λ answer. Decides answer (HasForm c.args.text.now)) (sym (returns-clause-read c)) (form_decided c.args.text.now)
