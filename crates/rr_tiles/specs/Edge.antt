-- The edges of a hex, which are the numbers from 0 to 5.
use Rattle.std.specs.Prelude.{ℕ, ◌+◌, ◌-◌, ◌%◌, ◌==◌, ◌&&◌, nat_le, Bool, List, [], ◌∷◌, ◌++◌, if◌then◌else◌, Option, None, Some, option_and_then}
use Rattle.std.specs.List.{list_any, slice_split}
use Rattle.rr_tiles.specs.Each.{added}

-- where a turn takes an edge
abbrev pub turned_edge : ℕ → ℕ → ℕ
turned_edge turn edge = (edge + turn) % 6

-- the edge that a digit spells
abbrev pub edge_in : ℕ → Option ℕ
edge_in digit = if nat_le 48 digit && nat_le digit 53 then Some (digit - 48) else None

-- the edge that a word spells
abbrev pub edge_of : List ℕ → Option ℕ
edge_of [] = None
edge_of (digit ∷ []) = edge_in digit
edge_of (digit ∷ more ∷ rest) = None

abbrev pub has_edge : List ℕ → ℕ → Bool
has_edge edges edge = list_any (λ other. other == edge) edges

-- the edges with one more, if it isn't among them
abbrev pub with_edge : List ℕ → ℕ → Option (List ℕ)
with_edge edges edge = if has_edge edges edge then None else Some (edges ++ edge ∷ [])

-- the edges with the one that a word spells
abbrev pub add_edge : List ℕ → List ℕ → Option (List ℕ)
add_edge edges word = option_and_then (with_edge edges) (edge_of word)

abbrev pub is_comma : ℕ → Bool
is_comma c = c == 44

-- the edges that words spell, none of them twice
abbrev pub edges_in : List (List ℕ) → Option (List ℕ)
edges_in words = added add_edge [] words

-- the edges that a text spells, with a comma between each two
abbrev pub edges_of : List ℕ → Option (List ℕ)
edges_of [] = Some []
edges_of (c ∷ rest) = edges_in (slice_split is_comma (c ∷ rest))
