use Rattle.std.proofs.Common.{arith}
use Rattle.rr_game.proofs.TurnEnds.{turns_told}
use Rattle.rr_game.proofs.game.Game.turns.Goals as goal

pub returns-clause-ended : goal.returns-clause-ended
returns-clause-ended c = λ kit accepted h.
    let told = turns_told kit accepted c.args.self.now h in
    omega (arith, told, c.turns.ensures.value)

pub returns-clause-few : goal.returns-clause-few
returns-clause-few c =
    let few = c.args.self.now.within.few in
    omega (arith, few, c.turns.ensures.value)
