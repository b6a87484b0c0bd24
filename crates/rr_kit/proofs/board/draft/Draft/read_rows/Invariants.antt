use Rattle.std.proofs.Common.{◌≡◌, Some, map, take}
use Rattle.rr_kit.specs.Board.Lines.{plan_of}
use Rattle.rr_kit.proofs.BoardLemmas.RowLemmas.{words_in_row}
use Rattle.rr_kit.proofs.board.draft.Draft.read_rows.Given as goal

abbrev pub invariant-loop-row : goal.invariant-loop-row
invariant-loop-row l = plan_of (map words_in_row (take l.row-index l.rows)) ≡ Some l.draft
