use Rattle.std.proofs.Common.{codes}
use Rattle.rr_moderator.proofs.Telling.{told_again}
use Rattle.rr_moderator.proofs.answering.write_nothing.Goals as goal

pub returns-clause-front : goal.returns-clause-front
returns-clause-front c = λ h. told_again _ _ (codes " -") h c.text.ensures.text
