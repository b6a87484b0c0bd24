use Rattle.rr_running.proofs.NetLemmas.LyingLemmas.{networks_lie_on_boards}
use Rattle.rr_running.proofs.NetLemmas.ReachLemmas.{links_are_reached_alike, nodes_are_reached_alike}
use Rattle.rr_running.proofs.net.laws.reaches_are_one.Goals as goal

pub returns : goal.returns
returns c = record { links = links_are_reached_alike; nodes = nodes_are_reached_alike; lies = networks_lie_on_boards }
