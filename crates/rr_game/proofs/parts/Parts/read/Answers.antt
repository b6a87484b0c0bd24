use Rattle.rr_game.specs.Parts.{game_form}
use Rattle.rr_game.proofs.WholeBytes.{read_in_part, read_whole}
use Rattle.rr_game.proofs.parts.Parts.read.Goals as goal

pub returns-then-not-is_empty : goal.returns-then-not-is_empty
returns-then-not-is_empty c =
    read_in_part game_form c.args.bytes.now c.of-cursor.result c.read-parts.new.cursor c.read-parts.result c.is_empty.result c.of-cursor.ensures c.read-parts.ensures c.is_empty.ensures c.if-not-is_empty.true

pub returns : goal.returns
returns c =
    read_whole game_form c.args.bytes.now c.of-cursor.result c.read-parts.new.cursor c.read-parts.result c.is_empty.result c.of-cursor.ensures c.read-parts.ensures c.is_empty.ensures c.if-not-is_empty.false
