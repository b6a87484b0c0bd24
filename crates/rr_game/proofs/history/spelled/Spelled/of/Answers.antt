use Rattle.std.proofs.Common.{subst}
use Rattle.rr_turns.specs.Words.{IsShort}
use Rattle.rr_game.proofs.HistoryLemmas.Spellings.{read-text, spells-text}
use Rattle.rr_game.proofs.history.spelled.Spelled.of.Goals as goal

pub invariant_of-result : goal.invariant_of-result
invariant_of-result c = (
  spells-text c.in_ok-text.text.items c.args.command.now c.requires c.in_ok-text.ensures.text,
  subst IsShort c.as_slice.ensures.value (c.is_short.ensures.0 c.if-is_short.true),
)

pub returns-then-is_short-clause-value : goal.returns-then-is_short-clause-value
returns-then-is_short-clause-value c = read-text c.in_ok-text.text.items c.args.command.now c.requires c.in_ok-text.ensures.text
