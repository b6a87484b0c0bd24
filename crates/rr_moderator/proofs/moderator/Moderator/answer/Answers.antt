use Rattle.std.proofs.Common.{refl}
use Rattle.rr_moderator.proofs.moderator.Moderator.answer.Goals as goal

pub returns : goal.returns
returns g c = rw c.reply.ensures ((refl, λ m. tt, (c.say.ensures.lasts, λ played. (c.say.ensures.answers played, c.say.ensures.played played))), tt)
