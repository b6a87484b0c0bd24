use Rattle.std.proofs.Common.{◌≡◌, ◌++◌, map, take}
use Rattle.rr_network.specs.Network.{edge_link}
use Rattle.rr_network.proofs.node.add_edges.Given as goal

abbrev pub invariant-loop-edge : goal.invariant-loop-edge
invariant-loop-edge l = l.links.items ≡ l.initial.links.items ++ map (edge_link l.hex.name l.hex.place l.centre) (take l.edge-index l.edges)
