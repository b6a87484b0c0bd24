use Rattle.rr_moderator.proofs.Telling.{told_words}
use Rattle.rr_moderator.proofs.answering.write_order.Goals as goal

pub returns-clause-front : goal.returns-clause-front
returns-clause-front c = told_words _ _ c.write_corps.ensures.text
