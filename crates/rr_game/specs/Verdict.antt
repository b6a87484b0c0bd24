-- The judgement on a command, from the state of a table's game and its kit alone.
use Rattle.std.specs.Prelude.{ℕ, List, Option, None, Some, if◌then◌else◌}
use Rattle.rr_books.specs.declared.acts.Act.{Act}
use Rattle.rr_code.specs.declared.command.Command.{Command}
use Rattle.rr_code.specs.declared.command.Command.TheVariants.{Open}
use Rattle.rr_kit.specs.declared.kit.Kit.{Kit}
use Rattle.rr_books.specs.declared.refusal.Refusal.TheVariants as R
use Rattle.rr_rules.specs.Judging.{game_is_over, judgement}
use Rattle.rr_rules.specs.State.{GameState}
use Rattle.rr_turns.specs.Judgement.{Judgement, judgement_behind, settled}
use Rattle.rr_books.specs.declared.refusal.Refusal.{Refusal}
use Rattle.rr_game.specs.Names.{act_of}

-- a name that the table lacks comes before the rules
abbrev pub act_judgement : Kit → GameState → Option Act → Judgement Refusal
act_judgement kit state None = settled (Some R.NoSuchName)
act_judgement kit state (Some act) = judgement kit state act

-- the judgement on a command while the game isn't over: no step takes a second opening
abbrev pub command_judgement_in_play : Kit → List (List ℕ) → GameState → Command → Judgement Refusal
command_judgement_in_play kit players state (Open others) = settled (Some R.WrongStep)
command_judgement_in_play kit players state command = act_judgement kit state (act_of players command)

-- nothing is played once the game is over
abbrev pub over_verdict : Kit → GameState → Option Refusal
over_verdict kit state = if game_is_over kit state.book then Some R.GameOver else None

-- the judgement on a command after the opening
abbrev pub command_judgement : Kit → List (List ℕ) → GameState → Command → Judgement Refusal
command_judgement kit players state command = judgement_behind (over_verdict kit state) (command_judgement_in_play kit players state command)
