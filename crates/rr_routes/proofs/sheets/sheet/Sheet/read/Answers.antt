use Rattle.std.proofs.Common.{◌∙◌, sym}
use Rattle.std.proofs.lemmas.Option.{same_Some, none-some}
use Rattle.rr_routes.proofs.SheetsLemmas.SheetLemmas.{sheet_of-found, sheet-only}
use Rattle.rr_routes.proofs.sheets.sheet.Sheet.read.Goals as goal

pub returns-in-Some-clause-read : goal.returns-in-Some-clause-read
returns-in-Some-clause-read c = sheet_of-found c.args.text.now c.in-Some.sheet (sym (c.in_ok-sheet.ensures {u = tt}) ∙ c.in-Some.is)

pub returns-in-Some-clause-only : goal.returns-in-Some-clause-only
returns-in-Some-clause-only c other spelled =
    same_Some other c.in-Some.sheet (sym (sheet-only c.args.text.now c.in_ok-sheet.field-0 (c.in_ok-sheet.ensures {u = tt}) other spelled) ∙ c.in-Some.is)

pub returns-in-None-clause-read : goal.returns-in-None-clause-read
returns-in-None-clause-read c sheet spelled =
    none-some sheet (sym c.in-None.is ∙ sheet-only c.args.text.now c.in_ok-sheet.field-0 (c.in_ok-sheet.ensures {u = tt}) sheet spelled)
