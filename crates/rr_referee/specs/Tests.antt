-- The tests on the words of a sheet and on the routes that they name.
use Rattle.std.specs.Prelude.{◌≡◌, ℕ, ◌<◌, ◌==◌, ◌||◌, ◌⊎◌, nat_lt, Bool, false, Option, None, List, [], ◌∷◌, length, slice_get}
use Rattle.std.specs.List.{list_any}
use Rattle.rr_routes.specs.declared.net.CentreLimit.{CentreLimit}
use Rattle.rr_routes.specs.declared.net.Node.{Node}
use Rattle.rr_routes.specs.declared.net.Node.TheVariants.{Hexside, Centre}
use Rattle.rr_routes.specs.Net.{Net, limit_of}
use Rattle.rr_routes.specs.Routes.{Walk, EndsAreCentres, Trip, no_trip, Route}
use Rattle.rr_checker.specs.Steps.{same_node}
use Rattle.rr_checker.specs.Trips.{centre_at, far_end}
use Rattle.rr_routes.specs.declared.sheets.sheet.TrainWord.{TrainWord}
use Rattle.rr_books.specs.declared.clause.Clause.{Clause}
use Rattle.rr_referee.specs.Sheets.{Ascends, AreLawful, BreaksWord, IsWordOf, WordAt}

-- there is no link of that number among so many
abbrev pub is_no_link : ℕ → ℕ → Bool
is_no_link count number = (number == 0) || nat_lt count number

-- the centre at which a route over the links begins
abbrev pub start_of : Net → List ℕ → Option ℕ
start_of net [] = None
start_of net (first ∷ rest) = centre_at (slice_get net.links first)

-- the nodes at which the links lead from that node on
abbrev pub onward : Net → Node → List ℕ → List Node
onward net at [] = []
onward net at (link ∷ links) = far_end (slice_get net.links link) at ∷ onward net (far_end (slice_get net.links link) at) links

-- the links are a walk between centres along the nodes, written from the end with the lower number
pub record IsCourse (net : Net) (links : List ℕ) (nodes : List Node) : Type 0 where
  pub ascends : Ascends links
  pub walk : Walk net links nodes
  pub ends : EndsAreCentres nodes

-- whatever walk between centres goes over the links, it goes along these nodes
abbrev pub IsOnlyCourse : Net → List ℕ → List Node → Type 0
IsOnlyCourse net links nodes = (others : List Node) → Walk net links others → EndsAreCentres others → others ≡ nodes

-- the trip is a route that begins with the lower number
abbrev pub IsRouteUp : Net → CentreLimit → Trip → Type 0
IsRouteUp net limit trip = Ascends trip.links × Route net limit trip

-- the word is that of the trip, a route or none
abbrev pub IsLawfulWord : Net → CentreLimit → TrainWord → Trip → Type 0
IsLawfulWord net limit word trip = IsWordOf limit word trip × ((trip ≡ no_trip) ⊎ Route net limit trip)

-- the list has a lawful word for the train of that place
abbrev pub IsLawfulAt : Net → CentreLimit → List TrainWord → ℕ → Trip → Type 0
IsLawfulAt net limit words train trip = (word : TrainWord) × WordAt words train word × IsLawfulWord net limit word trip

-- this is the first clause that a train's word breaks
abbrev pub BreaksAWord : Net → List TrainWord → Clause → Type 0
BreaksAWord net words clause =
    (train : ℕ) × (run : List Trip) × (train < length net.trains) × AreLawful net words train run × BreaksWord net (limit_of net train) (slice_get words train) clause

-- the node is a hexside that stands among the nodes
abbrev pub is_side_in : List Node → Node → Bool
is_side_in nodes (Centre centre) = false
is_side_in nodes (Hexside side) = list_any (λ other. same_node other (Hexside side)) nodes

-- a hexside is in both trips
abbrev pub shares_side : Trip → Trip → Bool
shares_side one other = list_any (λ node. is_side_in other.nodes node) one.nodes
