use Rattle.std.proofs.Common.{◌∙◌}
use Rattle.rr_game.proofs.Assets.{worth_told}
use Rattle.rr_game.proofs.wealth.worth.Goals as goal

pub returns : goal.returns
returns c = λ book h. c.worth_shown.ensures ∙ worth_told c.args.kit.now book c.args.position.now c.args.seat h
