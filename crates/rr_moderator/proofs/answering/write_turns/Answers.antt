use Rattle.std.proofs.Common.{codes, refl}
use Rattle.rr_moderator.proofs.Telling.{told_again, told_behind}
use Rattle.rr_moderator.proofs.answering.write_turns.Goals as goal

pub returns-clause-front : goal.returns-clause-front
returns-clause-front c =
    told_again c.text-2.new.self _ _ (told_again c.number.new.self _ _ (told_behind _ _ _ (codes "= ") _ c.requires c.text.ensures.text refl c.number.ensures.digits) c.text-2.ensures.text) c.number-2.ensures.digits
