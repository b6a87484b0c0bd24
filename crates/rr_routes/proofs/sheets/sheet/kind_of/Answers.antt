use Rattle.std.proofs.Common.{◌∷◌, []}
use Rattle.rr_routes.proofs.SheetsLemmas.SheetLemmas.{kind_of-read}
use Rattle.rr_routes.proofs.sheets.sheet.kind_of.Goals as goal

pub returns : goal.returns
returns c = kind_of-read (c.args.letter ∷ []) c.from_name.result c.from_name.ensures.found c.from_name.ensures.only
