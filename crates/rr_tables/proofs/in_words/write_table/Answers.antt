use Rattle.std.proofs.Common.{◌∙◌, ap, map}
use Rattle.rr_code.specs.Command.{text}
use Rattle.rr_game.specs.History.Tables.{kept_in}
use Rattle.rr_tables.proofs.WordLemmas.{written_so}
use Rattle.rr_tables.proofs.in_words.write_table.Goals as goal

pub returns-clause-table : goal.returns-clause-table
returns-clause-table c =
    written_so c.of.result c.args.name.now (kept_in c.args.table.now) c.stamp.result c.floor.result c.words-words.result.now.commands c.stamp.ensures.value
    c.floor.ensures (c.words-words.ensures ∙ ap (map text) c.commands.ensures) c.of.ensures.table
