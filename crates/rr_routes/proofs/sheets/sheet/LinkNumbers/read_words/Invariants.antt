use Rattle.std.proofs.Common.{◌≡◌, Some, map, take}
use Rattle.rr_words.specs.Numeral.{number_of}
use Rattle.rr_routes.specs.Sheets.Each.{each}
use Rattle.rr_routes.proofs.sheets.sheet.LinkNumbers.read_words.Given as goal

-- the words so far spell the numbers so far
abbrev pub invariant-loop-word : goal.invariant-loop-word
invariant-loop-word l = each number_of (map (λ word. word.now) (take l.word-index l.words)) ≡ Some l.links
