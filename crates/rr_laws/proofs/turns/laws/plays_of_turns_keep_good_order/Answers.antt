use Rattle.rr_laws.proofs.TurnsLemmas.Commands.{order_by_acts}
use Rattle.rr_laws.proofs.turns.laws.plays_of_turns_keep_good_order.Goals as goal

pub returns : goal.returns
returns c n kit revenue book acts earned lawful h = order_by_acts n kit revenue book acts earned lawful h
