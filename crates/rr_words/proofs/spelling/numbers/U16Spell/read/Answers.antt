use Rattle.std.proofs.Common.{◌^◌}
use Rattle.rr_words.proofs.SpellingLemmas.NumberLemmas.{number_or_short}
use Rattle.rr_words.proofs.spelling.numbers.U16Spell.read.Goals as goal

pub returns : goal.returns
returns c = number_or_short 2 (2 ^ 16) c.u16.result c.args.cursor.now c.u16.new.self c.u16.ensures
