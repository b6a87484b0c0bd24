use Rattle.std.proofs.Common.{rules}
use Rattle.std.proofs.lemmas.List.{append-nil}
use Rattle.rr_words.specs.Spelling.Number.{spelled_number}
use Rattle.rr_words.proofs.spelling.numbers.U32Spell.write.Goals as goal

pub returns-clause-bytes : goal.returns-clause-bytes
unfolding spelled_number
returns-clause-bytes c = search (rules, append-nil)
