-- The run over decided links.
use Rattle.std.specs.Prelude.{◌≡◌, ◌≢◌, ℕ, ◌<◌, ◌⊎◌, ◌↔◌, nat_le, Bool, true, false, List, Contains, length, map}
use Rattle.rr_routes.specs.declared.net.Node.TheVariants.{Hexside}
use Rattle.rr_routes.specs.declared.certificate.Fate.{Fate}
use Rattle.rr_routes.specs.declared.certificate.Fate.TheVariants.{Open, Denied, Of}
use Rattle.rr_routes.specs.Net.{Net, Touches, limit_of}
use Rattle.rr_routes.specs.Routes.{Trip, no_trip, trip_of, Route, Run, centres}
use Rattle.rr_routes.specs.Certificates.{fate_of, Keeps}

abbrev pub is_undecided : Fate → Bool
is_undecided Open = true
is_undecided Denied = false
is_undecided (Of owner) = false

-- the fate is a train that the net hasn't
abbrev pub is_stray : ℕ → Fate → Bool
is_stray count Open = false
is_stray count Denied = false
is_stray count (Of owner) = nat_le count owner

-- every link is decided
abbrev pub AllDecided : List Fate → Type 0
AllDecided fates = (link : ℕ) → fate_of fates link ≢ Open

-- where every link is decided, no run keeps the fates
abbrev pub NoRunKeeps : Net → List Fate → Type 0
NoRunKeeps net fates = AllDecided fates → (run : List Trip) → Run net run → Keeps fates run → ⊥

-- the trip of a train over just its own links, of which none shares a hexside with another train's
pub record IsOwnTrip (net : Net) (fates : List Fate) (train : ℕ) (trip : Trip) : Type 0 where
  pub lawful : (trip ≡ no_trip) ⊎ Route net (limit_of net train) trip
  pub same : (link : ℕ) → Contains trip.links link ↔ (fate_of fates link ≡ Of train)
  pub apart : (side link other owner : ℕ) → train ≢ owner → fate_of fates link ≡ Of train → fate_of fates other ≡ Of owner
      → Touches net link (Hexside side) → Touches net other (Hexside side) → ⊥

-- the centres that a train counts on such a trip
abbrev pub CountsOn : Net → List Fate → ℕ → List ℕ → Type 0
CountsOn net fates train counted = (trip : Trip) × IsOwnTrip net fates train trip × (counted ≡ centres trip.nodes)

-- the centres that the first n trains count on such trips
pub record AreCounted (net : Net) (fates : List Fate) (n : ℕ) (all : List (List ℕ)) : Type 0 where
  pub run : List Trip
  pub complete : length run ≡ n
  pub each : (train : ℕ) → train < n → IsOwnTrip net fates train (trip_of run train)
  pub counted : all ≡ map (λ trip. centres trip.nodes) run
