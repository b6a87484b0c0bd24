use Rattle.std.proofs.Common.{rules}
use Rattle.std.proofs.lemmas.List.{append-nil}
use Rattle.rr_words.specs.Spelling.Number.{spelled_number}
use Rattle.rr_reading.proofs.dir.writing.write_u64.Goals as goal

pub returns-clause-ok : goal.returns-clause-ok
unfolding spelled_number
returns-clause-ok c = search (rules, append-nil)
