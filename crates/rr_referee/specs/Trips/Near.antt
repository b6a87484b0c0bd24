-- Links that hang together.
use Rattle.std.specs.Prelude.{ℕ, Bool, List, [], ◌∷◌, Contains, is_some, slice_get}
use Rattle.rr_routes.specs.declared.net.Node.TheVariants.{Hexside}
use Rattle.rr_routes.specs.Net.{Net, Touches}
use Rattle.rr_checker.specs.Own.{is_shared}
use Rattle.rr_checker.specs.Trips.{centre_at}
use Rattle.rr_referee.specs.Trips.Ways.{LeadsOn}

-- a hexside is an end of both links
abbrev pub meets : Net → ℕ → ℕ → Bool
meets net link other = is_shared net (link ∷ []) (other ∷ [])

-- a centre is an end of the link
abbrev pub has_centre : Net → ℕ → Bool
has_centre net link = is_some (centre_at (slice_get net.links link))

-- from no hexside at an end of the link a way goes on over those that are left
abbrev pub IsStranded : Net → ℕ → List ℕ → Type 0
IsStranded net link left =
    (side next : ℕ) → Touches net link (Hexside side) → Contains left next → LeadsOn net left next (Hexside side) → ⊥
