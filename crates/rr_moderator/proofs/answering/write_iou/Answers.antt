use Rattle.std.proofs.Common.{codes, refl}
use Rattle.rr_moderator.proofs.Telling.{told_behind}
use Rattle.rr_moderator.proofs.answering.write_iou.Goals as goal

pub returns-clause-front : goal.returns-clause-front
returns-clause-front c = told_behind _ _ _ (codes "= ") _ c.requires c.text.ensures.text refl c.number.ensures.digits
