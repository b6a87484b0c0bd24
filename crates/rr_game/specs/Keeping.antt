-- What a game in memory is for the commands that its table accepted.
use Rattle.std.specs.Prelude.{◌≡◌, true, List, length}
use Rattle.rr_kit.specs.declared.kit.Kit.{Kit}
use Rattle.rr_code.specs.declared.command.Command.{Command}
use Rattle.rr_rules.specs.State.{IsStandingOf}
use Rattle.rr_game.specs.declared.game.Game.{Game}
use Rattle.rr_game.specs.Play.{begins_with_opening, play, players_of}
use Rattle.rr_game.specs.Turning.{ends_turn}
use Rattle.rr_turns.specs.Ends.{turn_ends}

-- the game is the one that the commands make
pub record IsGameOf (kit : Kit) (accepted : List Command) (game : Game) : Type 0 where
  pub opening : begins_with_opening accepted ≡ true
  pub played : game.played ≡ length accepted
  pub players : game.players ≡ players_of accepted
  pub standing : IsStandingOf (play kit accepted) game.standing
  pub ends : game.ends ≡ turn_ends (ends_turn kit) accepted
