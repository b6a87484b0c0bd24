use Rattle.rr_game.proofs.Judging.{command_one}
use Rattle.rr_game.proofs.laws.commands_have_one_verdict.Goals as goal

pub returns : goal.returns
returns c = λ kit players state command. command_one c.acts_have_one_verdict.ensures kit players state command
