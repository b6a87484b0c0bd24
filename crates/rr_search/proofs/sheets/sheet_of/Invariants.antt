use Rattle.rr_search.specs.Found.{IsSheetFor}
use Rattle.rr_search.proofs.sheets.sheet_of.Given as goal

abbrev pub invariant-loop-train : goal.invariant-loop-train
invariant-loop-train l = IsSheetFor l.kinds l.journeys l.train l.sheet
