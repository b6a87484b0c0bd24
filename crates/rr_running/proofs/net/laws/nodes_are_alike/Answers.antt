use Rattle.rr_running.proofs.NetLemmas.ReachLemmas.{terminals_are_alike, tokens_stand_alike}
use Rattle.rr_running.proofs.net.laws.nodes_are_alike.Goals as goal

pub returns : goal.returns
returns c = record { tokens = tokens_stand_alike; terminals = terminals_are_alike }
