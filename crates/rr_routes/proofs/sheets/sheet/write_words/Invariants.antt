use Rattle.std.proofs.Common.{◌≡◌, ◌∷◌, ◌++◌, map, take}
use Rattle.rr_words.specs.Line.{line_of}
use Rattle.rr_routes.specs.Sheets.Sheet.{train_text}
use Rattle.rr_routes.proofs.sheets.sheet.write_words.Given as goal

-- the words so far are written, with a space between each two
abbrev pub invariant-loop-word : goal.invariant-loop-word
invariant-loop-word l = l.out.items ≡ l.fn.out.items ++ line_of (map train_text (l.first ∷ take l.word-index l.rest))
