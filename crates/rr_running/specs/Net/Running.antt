-- The net of one corporation.
use Rattle.std.specs.Prelude.{List, map}
use Rattle.rr_kit.specs.declared.board.hex.Hex.{Hex}
use Rattle.rr_roster.specs.declared.company.Corp.{Corp}
use Rattle.rr_roster.specs.declared.company.Kind.{Kind}
use Rattle.rr_network.specs.Network.{Net as Network}
use Rattle.rr_routes.specs.Net.{Net}
use Rattle.rr_referee.specs.Sheets.{limit_of_kind}
use Rattle.rr_running.specs.Net.Joining.{placed_link, sides_in}
use Rattle.rr_running.specs.Net.Centres.{ends_routes, has_own_token, places, value_in}

-- the net over which the corporation runs these trains in the phase
abbrev pub net_of : List Hex → Network → Corp → List Kind → Kind → Net
net_of hexes network corp trains phase = record {
  links = map (placed_link hexes (sides_in network.links) network.stops) network.links;
  tokens = places (has_own_token network.stations corp) network.stops;
  terminals = places (ends_routes network.stations corp) network.stops;
  values = map (value_in phase) network.stops;
  trains = map limit_of_kind trains;
}
