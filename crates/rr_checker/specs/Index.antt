-- Links by the keys of the nodes that they touch.
use Rattle.std.specs.Prelude.{◌≡◌, ◌==◌, ℕ, Bool, Option, None, Some, List, Contains}
use Rattle.std.specs.List.{list_any}
use Rattle.rr_routes.specs.declared.net.Link.{Link}
use Rattle.rr_routes.specs.declared.net.Node.{Node}
use Rattle.rr_routes.specs.declared.net.Node.TheVariants.{Hexside, Centre}
use Rattle.rr_routes.specs.Net.{Net, Touches}
use Rattle.rr_routes.specs.Reachability.Index.{noted, noted_at as noted_at_key}
pub use Rattle.rr_routes.specs.Reachability.Index.{IsIndexOf}

-- by this an index has the node: two nodes of one kind have two keys
abbrev pub node_key : Node → ℕ
node_key (Hexside side) = side
node_key (Centre centre) = centre

-- what is noted at the node, among others
abbrev pub noted_at : List (List ℕ) → Node → List ℕ
noted_at index node = noted_at_key index (node_key node)

-- the number is noted at itself
abbrev pub is_noted : List (List ℕ) → ℕ → Bool
is_noted index number = list_any (λ other. other == number) (noted_at_key index number)

abbrev pub IsNoted : List (List ℕ) → ℕ → Type 0
IsNoted index number = Contains (noted_at_key index number) number

-- the number is one of these, and its own key
abbrev pub IsOneOf : List ℕ → ℕ → ℕ → Type 0
IsOneOf numbers key number = Contains numbers number × (key ≡ number)

-- the link is noted at both of its ends
abbrev pub noted_at_ends : List (List ℕ) → ℕ → Option Link → List (List ℕ)
noted_at_ends index place None = index
noted_at_ends index place (Some link) = noted (noted index link.side place) (node_key link.other) place

-- one of the links touches a node of this key
abbrev pub TouchesAt : Net → List ℕ → ℕ → ℕ → Type 0
TouchesAt net links key link = Contains links link × ((node : Node) × (node_key node ≡ key) × Touches net link node)
