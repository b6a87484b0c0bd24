use Rattle.std.proofs.Common.{◌≡◌, Some, map, take}
use Rattle.rr_routes.specs.Sheets.Each.{each}
use Rattle.rr_routes.specs.Sheets.Reading.{cert_word_of}
use Rattle.rr_routes.proofs.sheets.word.read_words.Given as goal

-- the words so far are read
abbrev pub invariant-loop-word : goal.invariant-loop-word
invariant-loop-word l = each cert_word_of (map (λ word. word.now) (take l.word-index l.words)) ≡ Some l.read.items
