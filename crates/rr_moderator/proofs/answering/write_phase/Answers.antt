use Rattle.rr_moderator.proofs.Telling.{told_sign}
use Rattle.rr_moderator.proofs.answering.write_phase.Goals as goal

pub returns-clause-front : goal.returns-clause-front
returns-clause-front c = told_sign _ _ c.write_kind.ensures.text
