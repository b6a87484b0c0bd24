-- What always holds of the commands of a game.
use Rattle.std.specs.Prelude.{ℕ, List}
use Rattle.rr_code.specs.declared.command.Command.{Command}
use Rattle.rr_kit.specs.declared.kit.Kit.{Kit}
use Rattle.rr_rules.specs.State.{GameState}
use Rattle.rr_turns.specs.Judgement.{HasOneVerdict}
use Rattle.rr_game.specs.Verdict.{command_judgement}

-- a command isn't refused for two reasons, nor refused and lawful
abbrev pub CommandsHaveOneVerdict : Type 0
CommandsHaveOneVerdict = (kit : Kit) (players : List (List ℕ)) (state : GameState) (command : Command) → HasOneVerdict (command_judgement kit players state command)
