-- What is reached in a graph, which has for each state the list of those that may follow it.
use Rattle.std.specs.Prelude.{◌≡◌, ℕ, ◌+◌, ◌<◌, ◌⊎◌, Bool, true, false, not, List, [], length, Contains, count_by, slice_index_or}

-- the states that may follow a state
abbrev pub followers : List (List ℕ) → ℕ → List ℕ
followers graph state = slice_index_or graph state []

-- a state is reached: a start, or one that follows a reached one
pub data IsReached (graph : List (List ℕ)) (starts : List ℕ) : ℕ → Type 0 where
  Start : (state : ℕ) → Contains starts state → IsReached graph starts state
  Follower : (state next : ℕ) → IsReached graph starts state → Contains (followers graph state) next → IsReached graph starts next

-- the mark of a state says yes
abbrev pub IsMarked : List Bool → ℕ → Type 0
IsMarked marks state = slice_index_or marks state false ≡ true

-- a state is reached over allowed states alone: an allowed start, or an allowed one that follows such a state
pub data IsReachedWithin (graph : List (List ℕ)) (allowed : List Bool) (starts : List ℕ) : ℕ → Type 0 where
  start_within : (state : ℕ) → Contains starts state → IsMarked allowed state → IsReachedWithin graph allowed starts state
  follower_within : (state next : ℕ) → IsReachedWithin graph allowed starts state → Contains (followers graph state) next → IsMarked allowed next
      → IsReachedWithin graph allowed starts next

-- each of these states that is allowed and has a mark is marked
abbrev pub AllMarked : List Bool → List Bool → List ℕ → Type 0
AllMarked allowed marks states = (state : ℕ) → Contains states state → state < length marks → IsMarked allowed state → IsMarked marks state

-- the allowed ones of these states are marked and the newly marked ones pending, and nothing else has changed
pub record AreMarked (states : List ℕ) (allowed old_marks : List Bool) (old_pending : List ℕ) (marks : List Bool) (pending : List ℕ) : Type 0 where
  pub same_length : length marks ≡ length old_marks
  pub marked : AllMarked allowed marks states
  pub within : (state : ℕ) → IsMarked marks state → IsMarked old_marks state ⊎ IsMarked allowed state
  pub kept : (state : ℕ) → IsMarked old_marks state → IsMarked marks state
  pub only : (state : ℕ) → IsMarked marks state → IsMarked old_marks state ⊎ (Contains states state × Contains pending state)
  pub still_pending : (state : ℕ) → Contains old_pending state → Contains pending state
  pub newly_pending : (state : ℕ) → Contains pending state → Contains old_pending state ⊎ IsMarked marks state
  pub as_many_left : count_by not marks + length pending ≡ count_by not old_marks + length old_pending
