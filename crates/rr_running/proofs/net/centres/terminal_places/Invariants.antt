use Rattle.std.proofs.Common.{◌≡◌, ◌++◌, drop}
use Rattle.rr_running.specs.Net.Centres.{ends_routes, places_from}
use Rattle.rr_running.proofs.net.centres.terminal_places.Given as goal

abbrev pub invariant-loop-place : goal.invariant-loop-place
invariant-loop-place l = l.places.items ++ places_from l.place (ends_routes l.stations l.corp) (drop l.place l.stops) ≡ places_from 0 (ends_routes l.stations l.corp) l.stops
