use Rattle.std.proofs.Common.{◌≡◌, [], ◌∷◌, ◌∙◌, false, arith}
use Rattle.std.specs.Prelude.{bytes_eq}
use Rattle.std.proofs.lemmas.Grind.{common_steps}
use Rattle.rr_routes.proofs.SheetsLemmas.FormLemmas.{links_told}
use Rattle.rr_routes.proofs.sheets.form.are_links.Goals as goal

pub returns : goal.returns
returns c =
    let other : bytes_eq c.args.text.now (45 ∷ []) ≡ false = grind (arith, common_steps) in
    c.are_numbers.ensures ∙ links_told c.args.text.now other
