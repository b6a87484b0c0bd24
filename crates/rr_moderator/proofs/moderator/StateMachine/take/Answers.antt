use Rattle.rr_moderator.proofs.moderator.StateMachine.take.Goals as goal

pub returns : goal.returns
returns g c = (c.say.ensures.lasts, λ played. (c.say.ensures.answers played, c.say.ensures.played played))
