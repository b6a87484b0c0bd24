-- Which corporation's token moved more recently than which: a number from 0 to 7 for each, the greatest for the last.
use Rattle.std.specs.Prelude.{◌≡◌, ◌≢◌, ℕ, ◌-◌, ◌<◌, ◌==◌, Bool, true, not, ◌&&◌, nat_lt, List, [], ◌∷◌, length, map, slice_index, slice_set, if◌then◌else◌}
use Rattle.std.specs.List.{list_any}

-- eight different numbers below 8
pub record AreRanks (ranks : List ℕ) : Type 0 where
  pub eight : length ranks ≡ 8
  pub below : (k : ℕ) → k < 8 → slice_index ranks k < 8
  pub different : (j k : ℕ) → j < 8 → k < 8 → j ≢ k → slice_index ranks j ≢ slice_index ranks k

-- a rank, one less where it is above a rank that moves away
abbrev pub lowered : ℕ → ℕ → ℕ
lowered before rank = if nat_lt before rank then rank - 1 else rank

-- the rank at an index after the token of another index moved: 7 for that one, and one less for those above it
abbrev pub rank_after : List ℕ → ℕ → ℕ → ℕ
rank_after ranks moved k = if k == moved then 7 else lowered (slice_index ranks moved) (slice_index ranks k)

-- the ranks after the token of an index moved
abbrev pub ranks_after : List ℕ → ℕ → List ℕ
ranks_after ranks moved = slice_set (map (lowered (slice_index ranks moved)) ranks) moved 7

-- these are different numbers below 8
abbrev pub are_ranks : List ℕ → Bool
are_ranks [] = true
are_ranks (rank ∷ others) = nat_lt rank 8 && (not (list_any (λ other. other == rank) others) && are_ranks others)
