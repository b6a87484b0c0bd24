-- What it is to have a route.
use Rattle.rr_routes.specs.declared.net.CentreLimit.{CentreLimit}
use Rattle.rr_routes.specs.Net.{Net}
use Rattle.rr_routes.specs.Routes.{Trip, Route}

-- some trip over links of the net is a route of a train that counts so many centres
abbrev pub HasRoute : Net → CentreLimit → Type 0
HasRoute net limit = (trip : Trip) × Route net limit trip
