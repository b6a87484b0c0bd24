-- Runs that were found.
use Rattle.std.specs.Prelude.{◌≡◌, ℕ, suc, ◌<◌, ◌≤◌, Option, None, Some, List, length, map, slice_get, ⊤}
use Rattle.rr_roster.specs.declared.company.Kind.{Kind}
use Rattle.rr_routes.specs.declared.certificate.Fate.{Fate}
use Rattle.rr_routes.specs.Net.{Net, limit_of}
use Rattle.rr_routes.specs.Routes.{Trip, Run, earned, trip_of}
use Rattle.rr_routes.specs.Certificates.{Keeps}
use Rattle.rr_checker.specs.declared.trips.Journey.{Journey}
use Rattle.rr_checker.specs.Runs.{IsOwnTrip}
use Rattle.rr_checker.specs.Trips.{trip_over}
use Rattle.rr_routes.specs.declared.sheets.sheet.TrainWord.{TrainWord}
use Rattle.rr_referee.specs.Sheets.{IsLegal, limit_of_kind}
pub use Rattle.rr_guesses.specs.Certified.{IsCertified, IsModest}
use Rattle.rr_search.specs.declared.found.Found.{Found}
use Rattle.rr_search.specs.Orientation.{ascending}

-- no sheet of the net is legal
abbrev pub HasNoSheet : Net → Type 0
HasNoSheet net = (sheet : List TrainWord) (revenue : ℕ) → IsLegal net sheet revenue → ⊥

-- these are the kinds of the net's trains
pub record AreKinds (net : Net) (kinds : List Kind) : Type 0 where
  pub complete : length kinds ≡ length net.trains
  pub each : (train : ℕ) (kind : Kind) → slice_get kinds train ≡ Some kind → limit_of_kind kind ≡ limit_of net train

-- where the journey goes
abbrev pub trip_along : Journey → Trip
trip_along journey = trip_over journey.links.items journey.nodes.items

-- the trips of the first n trains over just their own links, of which none shares a hexside with another train's
pub record AreOwnTrips (net : Net) (fates : List Fate) (n : ℕ) (run : List Trip) : Type 0 where
  pub complete : length run ≡ n
  pub each : (train : ℕ) → train < n → IsOwnTrip net fates train (trip_of run train)

-- the sheet has a word for each of the journeys, of the train's kind, that names its links
pub record IsSheetFor (kinds : List Kind) (journeys : List Journey) (count : ℕ) (sheet : List TrainWord) : Type 0 where
  pub complete : length sheet ≡ count
  pub each : (train : ℕ) (kind : Kind) (journey : Journey) (word : TrainWord) → slice_get kinds train ≡ Some kind → slice_get journeys train ≡ Some journey
      → slice_get sheet train ≡ Some word → (word.kind ≡ kind) × (word.links ≡ map suc (ascending journey.links.items))

-- what was found, if anything, is a legal sheet and its revenue
abbrev pub IsSound : Net → Option Found → Type 0
IsSound net None = ⊤
IsSound net (Some found) = IsLegal net found.sheet found.revenue

-- what was found earns at least so much
abbrev pub EarnsAtLeast : Option Found → ℕ → Type 0
EarnsAtLeast None amount = ⊥
EarnsAtLeast (Some found) amount = amount ≤ found.revenue

-- what is found in the end is sound, and earns at least what the earlier find and each run that keeps the fates earn
pub record IsBestUnder (net : Net) (fates : List Fate) (before after : Option Found) : Type 0 where
  pub sound : IsSound net after
  pub no_less : (amount : ℕ) → EarnsAtLeast before amount → EarnsAtLeast after amount
  pub most : (run : List Trip) → Run net run → Keeps fates run → EarnsAtLeast after (earned net run)
