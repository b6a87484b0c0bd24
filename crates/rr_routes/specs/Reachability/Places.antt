-- Items of a list by their places: those that pass a test, those with a mark, and the graph in which some may follow others.
use Rattle.std.specs.Prelude.{◌≡◌, ℕ, ◌<◌, ◌↔◌, Bool, true, false, List, [], ◌∷◌, Contains, length, slice_index_or}
use Rattle.rr_routes.specs.Reachability.Reach.{followers, IsMarked}

-- these are the places, among the first n, of the items that pass the test
pub record ArePlaces {X : Type 0} (test : X → Bool) (items : List X) (n : ℕ) (places : List ℕ) : Type 0 where
  pub sound : (k : ℕ) (d : X) → Contains places k → (k < n) × (test (slice_index_or items k d) ≡ true)
  pub complete : (k : ℕ) (d : X) → k < n → test (slice_index_or items k d) ≡ true → Contains places k

-- these are those of the places that pass the test
abbrev pub ArePassing : (ℕ → Bool) → List ℕ → List ℕ → Type 0
ArePassing test places passing = (place : ℕ) → Contains passing place ↔ (Contains places place × (test place ≡ true))

-- the followers of each of the first n items are the places of those by which one may go on from it
pub record IsGraphOf {X : Type 0} (goes_on : X → X → Bool) (items : List X) (n : ℕ) (graph : List (List ℕ)) : Type 0 where
  pub states : length graph ≡ n
  pub places : (k : ℕ) (d : X) → k < n → ArePlaces (goes_on (slice_index_or items k d)) items (length items) (followers graph k)

-- an item at one of the first n places has a mark
pub record HasMark {X : Type 0} (items : List X) (marks : List Bool) (n : ℕ) (item : X) : Type 0 where
  pub place : ℕ
  pub inside : place < n
  pub here : slice_index_or items place item ≡ item
  pub marked : IsMarked marks place

-- these are the marked ones of the first n items
abbrev pub AreMarkedItems : {X : Type 0} → List X → List Bool → ℕ → List X → Type 0
AreMarkedItems {X} items marks n marked = (item : X) → Contains marked item ↔ HasMark items marks n item

-- the items that have a mark, in their order; an item past the marks' end has none
unfoldable pub marked_of : {X : Type 0} → List X → List Bool → List X
marked_of [] marks = []
marked_of (item ∷ items) [] = []
marked_of (item ∷ items) (true ∷ marks) = item ∷ marked_of items marks
marked_of (item ∷ items) (false ∷ marks) = marked_of items marks
