-- The tests on where a train goes.
use Rattle.std.specs.Prelude.{◌≡◌, ℕ, suc, ◌<◌, ◌==◌, ◌&&◌, ◌||◌, ◌⊎◌, ◌↔◌, if◌then◌else◌, not, Bool, true, false, Option, None, Some, List, ◌∷◌, Contains, length, slice_get, slice_index, slice_index_or}
use Rattle.std.specs.List.{list_any}
use Rattle.rr_routes.specs.declared.net.CentreLimit.{CentreLimit}
use Rattle.rr_routes.specs.declared.net.Node.{Node}
use Rattle.rr_routes.specs.declared.net.Node.TheVariants.{Hexside, Centre}
use Rattle.rr_routes.specs.declared.net.Link.{Link}
use Rattle.rr_routes.specs.Net.{Net, Joins, HasToken}
use Rattle.rr_routes.specs.Routes.{Passes, Walk, Path, Trip, no_trip, Route, NoneTwice, EndsAreCentres, NoTerminalInside}
use Rattle.rr_checker.specs.Steps.{same_node}
use Rattle.rr_checker.specs.Index.{is_noted}
use Rattle.rr_checker.specs.Own.{some_link, touches}

-- the node at a place of the list
abbrev pub node_at : List Node → ℕ → Node
node_at nodes k = slice_index_or nodes k (Hexside 0)

abbrev pub some_node : Option Node → (Node → Bool) → Bool
some_node None test = false
some_node (Some node) test = test node

-- the node stands at that place of the list
abbrev pub stands_at : List Node → Node → ℕ → Bool
stands_at nodes node place = some_node (slice_get nodes place) (λ other. same_node other node)

-- the link at a place of the walk joins the nodes before and behind it, and the walk passes on to the next link
pub record GoesAt (net : Net) (links : List ℕ) (nodes : List Node) (k : ℕ) : Type 0 where
  pub joins : Joins net (slice_index links k) (node_at nodes k) (node_at nodes (suc k))
  pub passes : suc k < length links → Passes net (slice_index links k) (node_at nodes (suc k)) (slice_index links (suc k))

abbrev pub link_joins : Node → Node → Link → Bool
link_joins from to link = (same_node from (Hexside link.side) && same_node to link.other) || (same_node from link.other && same_node to (Hexside link.side))

abbrev pub joins : Net → ℕ → Node → Node → Bool
joins net place from to = some_link (slice_get net.links place) (link_joins from to)

abbrev pub hexes_differ : Option Link → Option Link → Bool
hexes_differ None other = true
hexes_differ (Some one) None = true
hexes_differ (Some one) (Some other) = not (one.hex == other.hex)

abbrev pub passes_on : Net → ℕ → Node → ℕ → Bool
passes_on net one (Centre centre) other = not (one == other)
passes_on net one (Hexside side) other = not (one == other) && hexes_differ (slice_get net.links one) (slice_get net.links other)

-- the end of the link at which a walk comes from the node
abbrev pub far : Node → Link → Node
far at link = if same_node at (Hexside link.side) then link.other else Hexside link.side

abbrev pub far_end : Option Link → Node → Node
far_end None at = at
far_end (Some link) at = far at link

-- the trip over these links along these nodes
abbrev pub trip_over : List ℕ → List Node → Trip
trip_over links nodes = record { links = links; nodes = nodes }

-- the lists have the same elements
abbrev pub SameElements : List ℕ → List ℕ → Type 0
SameElements one other = (link : ℕ) → Contains one link ↔ Contains other link

-- whatever path goes over just these links from the node on, it goes over those links along those nodes
abbrev pub IsOnlyWay : Net → List ℕ → Node → List ℕ → List Node → Type 0
IsOnlyWay net own start links nodes =
    (others : List ℕ) (behind : List Node) → Path net others (start ∷ behind) → SameElements others own → (links ≡ others) × (nodes ≡ start ∷ behind)

abbrev pub is_centre : Node → Bool
is_centre (Hexside side) = false
is_centre (Centre centre) = true

-- a path between centres with a token on it and no terminal node inside
pub record IsWay (net : Net) (links : List ℕ) (nodes : List Node) : Type 0 where
  pub walk : Walk net links nodes
  pub simple : NoneTwice nodes
  pub ends : EndsAreCentres nodes
  pub clear : NoTerminalInside net nodes
  pub token : (node : Node) × Contains nodes node × HasToken net node

-- a trip of a train over just these links: a route, or none where it has no links
pub record IsTripOver (net : Net) (limit : CentreLimit) (own : List ℕ) (trip : Trip) : Type 0 where
  pub lawful : (trip ≡ no_trip) ⊎ Route net limit trip
  pub same : SameElements trip.links own

-- no such trip begins with the link
abbrev pub NoneFrom : Net → CentreLimit → List ℕ → ℕ → Type 0
NoneFrom net limit own link = (trip : Trip) → IsTripOver net limit own trip → (rest : List ℕ) → trip.links ≡ link ∷ rest → ⊥

-- no such trip begins at the centre
abbrev pub NoneAt : Net → CentreLimit → List ℕ → ℕ → Type 0
NoneAt net limit own centre = (trip : Trip) → IsTripOver net limit own trip → (behind : List Node) → trip.nodes ≡ Centre centre ∷ behind → ⊥

-- another of the links touches the node
abbrev pub meets_another : Net → List ℕ → ℕ → Node → Bool
meets_another net own link node = list_any (λ other. not (link == other) && touches net other node) own

-- the centre at the other end of the link, if it is one
abbrev pub centre_of : Node → Option ℕ
centre_of (Hexside side) = None
centre_of (Centre centre) = Some centre

abbrev pub centre_at : Option Link → Option ℕ
centre_at None = None
centre_at (Some link) = centre_of link.other

-- one of the links isn't noted
abbrev pub is_missing : List ℕ → List (List ℕ) → Bool
is_missing own index = list_any (λ link. not (is_noted index link)) own
