use Rattle.rr_store.proofs.RecoveryLemmas.FormLemmas.{back_asked, command_asked, no_command_asked}
use Rattle.rr_store.proofs.recovery.words.spells_request.Goals as goal

pub returns-then-spells_command : goal.returns-then-spells_command
returns-then-spells_command c = (λ h. command_asked c.args.words.now (c.spells_command.ensures.0 c.if-spells_command.true), λ asked. c.if-spells_command.true)

pub returns-else-spells_command : goal.returns-else-spells_command
returns-else-spells_command c = (
  λ h. back_asked c.args.words.now (c.takes_back.ensures.0 h),
  λ asked.
      c.takes_back.ensures.1
      (no_command_asked c.args.words.now (λ command. absurd (cc (c.if-spells_command.false, c.spells_command.ensures.1 command))) asked.0 asked.1),
)
