use Rattle.std.proofs.Common.{arith}
use Rattle.rr_words.specs.Spelling.OneWay.{word_or_none}
use Rattle.rr_words.specs.Name.{IsPlayerName}
use Rattle.rr_code.proofs.bytes.read_name.Goals as goal

pub returns : goal.returns
returns c =
    word_or_none IsPlayerName c.player.result c.in_ok-count.count c.in_ok-word.word.now c.args.cursor.now c.u8.new.self c.bytes.new.self c.in_ok-count.ensures
    (omega (arith, c.in_ok-word.ensures.0, c.from.ensures)) c.in_ok-word.ensures.2 c.player.ensures.spelled
