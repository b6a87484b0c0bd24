use Rattle.rr_game.proofs.TurnEnds.{within_at}
use Rattle.rr_game.proofs.game.Game.played_at.Goals as goal

pub returns-clause-few : goal.returns-clause-few
returns-clause-few c =
    within_at c.args.self.now.played c.args.self.now.ends c.args.turn c.kept_at.result c.args.self.now.within c.kept_at.ensures.value c.kept_at.ensures.few
