use Rattle.std.proofs.Common.{take}
use Rattle.std.specs.Prelude.{flat_map}
use Rattle.rr_network.specs.Network.{AddsHex, hex_links, hex_stops}
use Rattle.rr_network.proofs.survey.Survey.add_hexes.Given as goal

abbrev pub invariant-loop-hex : goal.invariant-loop-hex
invariant-loop-hex l = AddsHex l.initial.self l.self (flat_map (hex_links l.tiles l.lays) (take l.hex-index l.hexes)) (flat_map (hex_stops l.tiles l.lays) (take l.hex-index l.hexes))
