use Rattle.std.proofs.Common.{Option}
use Rattle.std.proofs.lemmas.Result.{IfOk-weaker}
use Rattle.rr_game.specs.declared.game.Game.{Game}
use Rattle.rr_game.proofs.PartsLemmas.{made}
use Rattle.rr_game.proofs.laws.made_again.Goals as goal

pub returns : goal.returns
returns c =
    IfOk-weaker c.from_parts.result _ _ (λ (found : Option Game) h. made c.args.game.now c.parts.result found c.parts.ensures.value c.parts.ensures.sound h) c.from_parts.ensures
