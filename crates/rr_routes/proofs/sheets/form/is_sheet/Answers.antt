use Rattle.std.proofs.Common.{◌≡◌, ◌<◌, length, sym, subst, ◌∙◌, arith}
use Rattle.std.specs.Bool.{Decides}
use Rattle.std.proofs.lemmas.Grind.{common_steps}
use Rattle.rr_routes.specs.Sheets.Sheet.{SpellsSomeSheet}
use Rattle.rr_routes.proofs.SheetsLemmas.FormLemmas.{nothing_told, sheet_decided, sheet_told}
use Rattle.rr_routes.proofs.sheets.form.is_sheet.Goals as goal

pub returns-then-is_empty-clause-spelled : goal.returns-then-is_empty-clause-spelled
returns-then-is_empty-clause-spelled c =
    let told = c.is_empty.ensures in
    let tested = c.if-is_empty.true in
    let none : length c.args.text.now ≡ 0 = grind (arith, common_steps) in
    subst (λ answer. Decides answer (SpellsSomeSheet c.args.text.now)) (sym (nothing_told c.args.text.now none)) (sheet_decided c.args.text.now)

pub returns-clause-read : goal.returns-clause-read
returns-clause-read c =
    let told = c.is_empty.ensures in
    let tested = c.if-is_empty.false in
    let some : 0 < length c.args.text.now = grind (arith, common_steps) in
    c.are_train_words.ensures ∙ sheet_told c.args.text.now some

pub returns-clause-spelled : goal.returns-clause-spelled
returns-clause-spelled c =
    subst (λ answer. Decides answer (SpellsSomeSheet c.args.text.now)) (sym (returns-clause-read c)) (sheet_decided c.args.text.now)
