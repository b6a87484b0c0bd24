use Rattle.std.proofs.Common.{rules}
use Rattle.rr_words.specs.Spelling.Number.{AreBytes}
use Rattle.rr_words.proofs.SpellingLemmas.NumberLemmas.{spelled_number-read}
use Rattle.rr_reading.proofs.lending.joining.number_in.Goals as goal

pub returns : goal.returns
returns c = let are : AreBytes c.args.bytes.now = search rules in spelled_number-read 2 c.read_u16.result c.args.bytes.now c.requires are c.read_u16.ensures
