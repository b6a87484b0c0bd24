use Rattle.rr_code.specs.declared.command.Command.TheVariants.{Open}
use Rattle.rr_store.proofs.recovery.playing.players_of.Goals as goal

pub returns-in-Err : goal.returns-in-Err
returns-in-Err c = λ players spells. absurd (cc (c.in-Err.ensures.only (Open players) spells))
