use Rattle.rr_game.proofs.PartsLemmas.{game_found}
use Rattle.rr_game.proofs.game.Game.from_parts.Goals as goal

pub returns-in-Some : goal.returns-in-Some
returns-in-Some c = game_found c.args.parts.now c.in_ok-found.found c.in-Some.standing _ c.in-Some.is c.in_ok-found.ensures
