-- The rows of an index in which lists are noted by keys.
use Rattle.std.specs.Prelude.{◌≡◌, ℕ, ◌<◌, ◌%◌, ◌==◌, Bool, false, Option, None, Some, List, map, length, slice_get}
use Rattle.rr_kit.specs.declared.board.hex.Hex.{Hex}
use Rattle.rr_network.specs.declared.network.Stop.{Stop}
use Rattle.rr_network.specs.declared.node.Hexside.{Hexside}
use Rattle.rr_network.specs.Keys.{centre_key, hexside_key, name_key}
use Rattle.rr_routes.specs.Reachability.Index.{noted_at}
use Rattle.rr_running.specs.declared.net.indexing.Indices.{Indices}
use Rattle.rr_running.specs.Net.Centres.{places}

abbrev pub hex_key : Hex → ℕ
hex_key hex = name_key hex.name

abbrev pub stop_key : Stop → ℕ
stop_key stop = centre_key stop.at

-- what stands at the place passes
abbrev pub is_passing : {X : Type 0} → (X → Bool) → Option X → Bool
is_passing test None = false
is_passing test (Some x) = test x

abbrev pub passes_at : {X : Type 0} → (X → Bool) → List X → ℕ → Bool
passes_at test items place = is_passing test (slice_get items place)

-- keys stand in one row of so many
abbrev pub share_row : ℕ → ℕ → ℕ → Bool
share_row rows key other = (other % rows) == (key % rows)

-- the row of each key has the places of the keys that share it, in order
pub record IsIndexOf (keys : List ℕ) (index : List (List ℕ)) : Type 0 where
  pub some : 0 < length index
  pub rows : (key : ℕ) → noted_at index key ≡ places (share_row (length index) key) keys

-- hexes, hexsides and centres are noted by their keys
pub record AreIndicesOf (board : List Hex) (ends : List Hexside) (centres : List Stop) (indices : Indices) : Type 0 where
  pub hexes : IsIndexOf (map hex_key board) indices.hexes
  pub sides : IsIndexOf (map hexside_key ends) indices.sides
  pub stops : IsIndexOf (map stop_key centres) indices.stops
