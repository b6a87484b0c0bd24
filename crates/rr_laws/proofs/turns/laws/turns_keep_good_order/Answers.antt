use Rattle.rr_laws.proofs.TurnsLemmas.Commands.{order_by_act}
use Rattle.rr_laws.proofs.turns.laws.turns_keep_good_order.Goals as goal

pub returns : goal.returns
returns c n kit revenue book act earned lawful h = order_by_act n kit revenue book act earned lawful h
