use Rattle.rr_moderator.proofs.Telling.{history_calm}
use Rattle.rr_moderator.proofs.answering.entries_of.Goals as goal

pub returns-in-Err-clause-calm : goal.returns-in-Err-clause-calm
returns-in-Err-clause-calm c = rw c.of_history.ensures (history_calm _)
