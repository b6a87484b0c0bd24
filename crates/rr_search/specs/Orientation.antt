-- The two directions of a trip.
use Rattle.std.specs.Prelude.{ℕ, ◌-◌, List, Bool, length, nat_lt, if◌then◌else◌, reverse, slice_index}
use Rattle.rr_routes.specs.Routes.{Trip}

-- the same trip from the other end
abbrev pub reversed : Trip → Trip
reversed trip = record { links = reverse trip.links; nodes = reverse trip.nodes }

-- the last link's number is below the first's
abbrev pub is_backward : List ℕ → Bool
is_backward links = nat_lt (slice_index links (length links - 1)) (slice_index links 0)

-- the links in the direction in which a sheet names them, which begins with the lower number
abbrev pub ascending : List ℕ → List ℕ
ascending links = if is_backward links then reverse links else links

-- the trip in that direction
abbrev pub oriented : Trip → Trip
oriented trip = if is_backward trip.links then reversed trip else trip
