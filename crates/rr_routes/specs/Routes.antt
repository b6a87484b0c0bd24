-- Walks, paths, routes, runs and what they earn.
use Rattle.std.specs.Prelude.{◌≡◌, ◌≢◌, ℕ, ◌≤◌, List, [], ◌∷◌, ◌⊎◌, Contains, length, sum_by, slice_index_or, ⊤}
use Rattle.std.specs.List.{AllByRecursion}
use Rattle.rr_routes.specs.declared.net.Node.{Node}
use Rattle.rr_routes.specs.declared.net.Node.TheVariants.{Hexside, Centre}
use Rattle.rr_routes.specs.declared.net.CentreLimit.{CentreLimit}
use Rattle.rr_routes.specs.Net.{Net, Joins, InDifferentHexes, IsCentre, HasToken, IsTerminal, value, limit_of, IsWithin}

-- From one link over a node into the next: never back on the link, and at a hexside from one hex into the other.
abbrev pub Passes : Net → ℕ → Node → ℕ → Type 0
Passes net link (Centre centre) next = link ≢ next
Passes net link (Hexside side) next = (link ≢ next) × InDifferentHexes net link next

-- A walk over these links in order and the nodes between and at the ends of them. It reads the same from either end.
pub data Walk (net : Net) : List ℕ → List Node → Type 0 where
  one_link : (link : ℕ) (from to : Node) → Joins net link from to → Walk net (link ∷ []) (from ∷ to ∷ [])
  goes_on : (link next : ℕ) (links : List ℕ) (from to : Node) (nodes : List Node)
      → Joins net link from to → Passes net link to next → Walk net (next ∷ links) (to ∷ nodes)
      → Walk net (link ∷ next ∷ links) (from ∷ to ∷ nodes)

-- nothing stands twice in the list
abbrev pub NoneTwice : {X : Type 0} → List X → Type 0
NoneTwice [] = ⊤
NoneTwice (x ∷ xs) = (Contains xs x → ⊥) × NoneTwice xs

-- a path is a walk with no node twice
abbrev pub Path : Net → List ℕ → List Node → Type 0
Path net links nodes = Walk net links nodes × NoneTwice nodes

-- all but the last of the node and those behind it
abbrev pub but_last : Node → List Node → List Node
but_last node [] = []
but_last node (next ∷ nodes) = node ∷ but_last next nodes

-- the nodes that are at neither end
abbrev pub inner : List Node → List Node
inner [] = []
inner (node ∷ []) = []
inner (node ∷ next ∷ nodes) = but_last next nodes

-- the last of the node and those behind it
abbrev pub last : Node → List Node → Node
last node [] = node
last node (next ∷ nodes) = last next nodes

-- both ends are centres
abbrev pub EndsAreCentres : List Node → Type 0
EndsAreCentres [] = ⊥
EndsAreCentres (node ∷ nodes) = IsCentre node × IsCentre (last node nodes)

-- no node but those at the ends is terminal
abbrev pub NoTerminalInside : Net → List Node → Type 0
NoTerminalInside net nodes = AllByRecursion (λ node. IsTerminal net node → ⊥) (inner nodes)

-- the centres among the nodes
abbrev pub centres : List Node → List ℕ
centres [] = []
centres (Hexside side ∷ nodes) = centres nodes
centres (Centre centre ∷ nodes) = centre ∷ centres nodes

-- where one train goes: the links in order, and the nodes along them
pub record Trip : Type 0 where
  pub links : List ℕ
  pub nodes : List Node

-- the train stays where it is
abbrev pub no_trip : Trip
no_trip = record { links = []; nodes = [] }

-- a route of a train that counts so many centres
pub record Route (net : Net) (limit : CentreLimit) (trip : Trip) : Type 0 where
  pub path : Path net trip.links trip.nodes
  pub ends : EndsAreCentres trip.nodes
  pub no_terminal : NoTerminalInside net trip.nodes
  pub token : (node : Node) × Contains trip.nodes node × HasToken net node
  pub counted : IsWithin limit (length (centres trip.nodes))

-- the trip of the train of that place
abbrev pub trip_of : List Trip → ℕ → Trip
trip_of run train = slice_index_or run train no_trip

-- no hexside is in both trips
abbrev pub Apart : Trip → Trip → Type 0
Apart one other = (side : ℕ) → Contains one.nodes (Hexside side) → Contains other.nodes (Hexside side) → ⊥

-- a run: for each train a route or none, and no hexside in two of them
pub record Run (net : Net) (run : List Trip) : Type 0 where
  pub complete : length run ≡ length net.trains
  pub lawful : (train : ℕ) → (trip_of run train ≡ no_trip) ⊎ Route net (limit_of net train) (trip_of run train)
  pub apart : (one other : ℕ) → one ≢ other → Apart (trip_of run one) (trip_of run other)

-- what these centres are worth together
abbrev pub worth : Net → List ℕ → ℕ
worth net counted = sum_by (value net) counted

-- what the run earns: each route counts each of its centres
unfoldable pub earned : Net → List Trip → ℕ
earned net run = sum_by (λ trip. worth net (centres trip.nodes)) run

-- a run of which no other earns more
pub record Optimal (net : Net) (run : List Trip) : Type 0 where
  pub is_run : Run net run
  pub most : (other : List Trip) → Run net other → earned net other ≤ earned net run
