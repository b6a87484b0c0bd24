use Rattle.std.proofs.Common.{◌≡◌, ◌++◌, length, List}
use Rattle.rr_routes.specs.Sheets.Growing.{IsForest}
use Rattle.rr_routes.specs.declared.sheets.word.CertWord.{CertWord}
use Rattle.rr_routes.proofs.sheets.certificate.grow.Given as goal

-- the words behind those that are left are those of the trees
abbrev pub invariant-loop-word : goal.invariant-loop-word
invariant-loop-word l = (behind : List CertWord) × (l.words ≡ l.left ++ behind) × IsForest l.trains behind l.forest

abbrev pub decreases-loop-word : goal.decreases-loop-word
decreases-loop-word l = length l.left
