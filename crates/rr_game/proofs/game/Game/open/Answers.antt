use Rattle.std.proofs.Common.{refl, sym, ap, length}
use Rattle.rr_game.proofs.Playing.{opened_at}
use Rattle.rr_game.proofs.game.Game.open.Goals as goal

pub returns-clause-game : goal.returns-clause-game
returns-clause-game c = record {
  opening = refl;
  played = refl;
  players = refl;
  standing = opened_at c.args.players c.roster.result.now c.args.kit.now.roster c.in_ok-standing.standing c.roster.ensures (c.in_ok-standing.ensures c.args.players (sym (ap length c.as_slice.ensures.value)));
  ends = c.opening.ensures;
}
