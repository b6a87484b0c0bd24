use Rattle.rr_game.proofs.HistoryLemmas.Spellings.{spells-read}
use Rattle.rr_game.proofs.history.kept.is_spelled.Goals as goal

pub returns-clause-spelled : goal.returns-clause-spelled
returns-clause-spelled c = λ is. spells-read c.args.words.now c.read.result c.is_ok.result c.read.ensures.found c.is_ok.ensures.value is
