use Rattle.std.proofs.Common.{◌≡◌, ◌++◌, drop}
use Rattle.rr_running.specs.Net.Centres.{has_own_token, places_from}
use Rattle.rr_running.proofs.net.centres.token_places.Given as goal

abbrev pub invariant-loop-place : goal.invariant-loop-place
invariant-loop-place l = l.places.items ++ places_from l.place (has_own_token l.stations l.corp) (drop l.place l.stops) ≡ places_from 0 (has_own_token l.stations l.corp) l.stops
