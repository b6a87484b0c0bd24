use Rattle.rr_laws.proofs.TurnsLemmas.Commands.{lawful_is_played}
use Rattle.rr_laws.proofs.turns.laws.lawful_commands_are_of_turns.Goals as goal

pub returns : goal.returns
returns c kit book revenue act lawful = lawful_is_played kit book revenue act lawful
