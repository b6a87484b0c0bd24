-- Places by the keys at which they are noted.
use Rattle.std.specs.Prelude.{◌≡◌, ℕ, ◌%◌, ◌<◌, List, [], ◌∷◌, ◌++◌, Contains, length, max, replicate, slice_index_or, slice_set}
use Rattle.rr_routes.specs.Reachability.Reach.{followers}

-- what stands in the row of the key
abbrev pub noted_at : List (List ℕ) → ℕ → List ℕ
noted_at index key = followers index (key % length index)

-- one place more, noted at the key behind what stands in its row
abbrev pub noted : List (List ℕ) → ℕ → ℕ → List (List ℕ)
noted index key place = slice_set index (key % length index) (noted_at index key ++ place ∷ [])

-- no place is noted, in so many rows or in one
abbrev pub nothing_noted : ℕ → List (List ℕ)
nothing_noted count = replicate (max count 1) []

-- just these places are noted, and each at its keys; in the row of a key stand others too
pub record IsIndexOf (IsAt : ℕ → ℕ → Type 0) (index : List (List ℕ)) : Type 0 where
  pub some : 0 < length index
  pub sound : (key place : ℕ) → Contains (noted_at index key) place → (other : ℕ) × IsAt other place
  pub complete : (key place : ℕ) → IsAt key place → Contains (noted_at index key) place

-- the place of one of the first n items, at the item's key
abbrev pub StandsAt : {X : Type 0} → (X → ℕ) → List X → ℕ → ℕ → ℕ → Type 0
StandsAt {X} key_of items n key place = (place < n) × ((d : X) → key_of (slice_index_or items place d) ≡ key)
