use Rattle.std.proofs.Common.{◌^◌}
use Rattle.rr_words.proofs.SpellingLemmas.NumberLemmas.{number_or_short}
use Rattle.rr_words.proofs.spelling.numbers.U64Spell.read.Goals as goal

pub returns : goal.returns
returns c = number_or_short 8 (2 ^ 64) c.u64.result c.args.cursor.now c.u64.new.self c.u64.ensures
