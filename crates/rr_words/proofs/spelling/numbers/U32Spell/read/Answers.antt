use Rattle.std.proofs.Common.{◌^◌}
use Rattle.rr_words.proofs.SpellingLemmas.NumberLemmas.{number_or_short}
use Rattle.rr_words.proofs.spelling.numbers.U32Spell.read.Goals as goal

pub returns : goal.returns
returns c = number_or_short 4 (2 ^ 32) c.u32.result c.args.cursor.now c.u32.new.self c.u32.ensures
