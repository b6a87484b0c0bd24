-- The steps over a net, the graph over them, and the steps that end where walks end.
use Rattle.std.specs.Prelude.{◌≡◌, ℕ, ◌⊎◌, ◌↔◌, Bool, List, Contains, length}
use Rattle.rr_routes.specs.declared.net.Node.{Node}
use Rattle.rr_routes.specs.Net.{Net}
use Rattle.rr_routes.specs.Reach.{WalkTo}
use Rattle.rr_routes.specs.Reachability.Index.{IsIndexOf, StandsAt}
use Rattle.rr_routes.specs.Reachability.Places.{ArePlaces, HasMark, IsGraphOf}
use Rattle.rr_checker.specs.declared.step.Step.{Step}
use Rattle.rr_checker.specs.declared.tracks.Tracks.{Tracks}
use Rattle.rr_checker.specs.Steps.{HasStep, goes_on, has_token}
use Rattle.rr_checker.specs.Index.{node_key}
use Rattle.rr_checker.specs.Ranked.{EndsAtCentre, IsRankingOf}

-- Both steps over each link of the net, for each the places of those by which a walk that ends with it may go on, and the
-- places of those by which a walk may begin.
pub record AreTracks (net : Net) (steps : List Step) (graph : List (List ℕ)) (starts : List ℕ) : Type 0 where
  pub all : (step : Step) → Contains steps step ↔ HasStep net (length net.links) step
  pub rows : IsGraphOf (goes_on net) steps (length steps) graph
  pub first : ArePlaces (λ step. has_token net step.from) steps (length steps) starts

-- the key of the node that a step ends at, and the place of one of the first n steps at it
abbrev pub arrives_at : Step → ℕ
arrives_at step = node_key step.to

abbrev pub ArrivesAt : List Step → ℕ → ℕ → ℕ → Type 0
ArrivesAt steps n = StandsAt arrives_at steps n

-- beside them, where the steps end, and the ranked list of the centres at which walks may begin or end
pub record IsTracksOf (net : Net) (tracks : Tracks) : Type 0 where
  pub walks : AreTracks net tracks.steps.items tracks.graph.items tracks.starts.items
  pub arrivals : IsIndexOf (ArrivesAt tracks.steps.items (length tracks.steps.items)) tracks.arrivals
  pub ranked : IsRankingOf net (λ centre. Contains net.tokens centre ⊎ EndsAtCentre tracks.steps.items centre) tracks.centres.items

-- the key of the node that a step begins at, and the place of one of the first n steps at it
abbrev pub begins_at : Step → ℕ
begins_at step = node_key step.from

abbrev pub BeginsAt : List Step → ℕ → ℕ → ℕ → Type 0
BeginsAt steps n = StandsAt begins_at steps n

-- one of the steps goes over the link to the node
abbrev pub EndsAt : List Step → ℕ → Node → Type 0
EndsAt steps link node = (step : Step) × Contains steps step × (step.link ≡ link) × (step.to ≡ node)

-- the steps end where walks over links that may be used end
abbrev pub AreEnds : Net → (ℕ → Type 0) → List Step → Type 0
AreEnds net MayUse ends = (link : ℕ) (node : Node) → EndsAt ends link node ↔ WalkTo net MayUse link node

-- a marked step goes over the link to the node
abbrev pub MarkedAt : List Step → List Bool → ℕ → Node → Type 0
MarkedAt steps marks link node = (step : Step) × HasMark steps marks (length steps) step × (step.link ≡ link) × (step.to ≡ node)

-- the marked steps end where walks over links that may be used end
abbrev pub AreEndMarks : Net → (ℕ → Type 0) → List Step → List Bool → Type 0
AreEndMarks net MayUse steps marks = (link : ℕ) (node : Node) → MarkedAt steps marks link node ↔ WalkTo net MayUse link node
