-- Walks over the links of a network, and what a corporation reaches by them.
use Rattle.std.specs.Prelude.{◌≡◌, ℕ, ◌+◌, ◌==◌, ◌&&◌, ◌||◌, ◌⊎◌, not, nat_le, Bool, true, false, List, [], ◌∷◌, Option, None, Some, option_map, find, count_by, bytes_eq, Contains}
use Rattle.std.specs.List.{list_any}
use Rattle.rr_roster.specs.declared.company.Corp.{Corp}
use Rattle.rr_roster.specs.Company.{corp_index}
use Rattle.rr_tiles.specs.declared.part.Kind.{Kind}
use Rattle.rr_tiles.specs.declared.part.Kind.TheVariants.{Town, City, OffBoard}
use Rattle.rr_desk.specs.declared.layout.layout.Station.{Station}
use Rattle.rr_network.specs.declared.network.Stop.{Stop}
use Rattle.rr_network.specs.declared.node.CentreAt.{CentreAt}
use Rattle.rr_network.specs.declared.node.Link.{Link}
use Rattle.rr_network.specs.declared.node.Node.{Node}
use Rattle.rr_network.specs.declared.node.Node.TheVariants.{Hexside, Centre}
use Rattle.rr_network.specs.declared.step.Step.{Step}
use Rattle.rr_network.specs.Node.{same_centre, same_node}
use Rattle.rr_network.specs.Network.{Net}

-- a link from its hexside to its other end
abbrev pub forward : ℕ → Link → Step
forward number link = record { number = number; hex = link.hex; from = Hexside link.side; to = link.end }

-- a link from its other end to its hexside
abbrev pub backward : ℕ → Link → Step
backward number link = record { number = number; hex = link.hex; from = link.end; to = Hexside link.side }

-- both steps over each link, of which the first has this number
unfoldable pub steps_from : ℕ → List Link → List Step
steps_from number [] = []
steps_from number (link ∷ links) = forward number link ∷ backward number link ∷ steps_from (number + 1) links

-- both steps over each link
abbrev pub steps_of : List Link → List Step
steps_of links = steps_from 1 links

-- where a token stands
abbrev pub node_of : Station → Node
node_of station = Centre (record { hex = station.hex; number = station.centre })

abbrev pub token_at : Corp → Node → Station → Bool
token_at corp node station = corp_index station.corp == corp_index corp && same_node node (node_of station)

-- a token of the corporation stands at the node
abbrev pub has_token : List Station → Corp → Node → Bool
has_token stations corp node = list_any (token_at corp node) stations

abbrev pub is_other_at : Corp → Node → Station → Bool
is_other_at corp node station = not (corp_index station.corp == corp_index corp) && same_node node (node_of station)

-- as many tokens of others stand at the node as it has slots
abbrev pub is_filled : List Station → Corp → Node → ℕ → Bool
is_filled stations corp node slots = nat_le slots (count_by (is_other_at corp node) stations)

abbrev pub kind_at : List Stop → CentreAt → Option Kind
kind_at stops at = option_map (λ stop. stop.kind) (find (λ stop. same_centre stop.at at) stops)

abbrev pub kind_stops : List Station → Corp → Node → Kind → Bool
kind_stops stations corp node Town = false
kind_stops stations corp node (City slots) = is_filled stations corp node slots
kind_stops stations corp node (OffBoard later) = true

abbrev pub some_stops : List Station → Corp → Node → Option Kind → Bool
some_stops stations corp node None = false
some_stops stations corp node (Some kind) = kind_stops stations corp node kind

-- no walk of the corporation goes on from the node: an off-board area, or a city whose slots others fill
abbrev pub is_terminal : List Stop → List Station → Corp → Node → Bool
is_terminal stops stations corp (Hexside side) = false
is_terminal stops stations corp (Centre at) = some_stops stations corp (Centre at) (kind_at stops at)

-- a walk passes a hexside from one hex into the other, and a centre to another link
abbrev pub passes_at : Node → Step → Step → Bool
passes_at (Hexside side) step next = not (bytes_eq step.hex next.hex)
passes_at (Centre at) step next = not (step.number == next.number)

abbrev pub passes : Step → Step → Bool
passes step next = passes_at step.to step next

-- the second step begins where the first one ends, and passes that node
abbrev pub may_follow : Step → Step → Bool
may_follow step next = same_node step.to next.from && passes step next

-- A walk from a token of the corporation ends with this step: either it is the first one, or a walk
-- that ends with another step, at a node that isn't terminal, goes on by this one.
pub data EndsWalk (net : Net) (corp : Corp) : Step → Type 0 where
  Begins : (step : Step) → Contains (steps_of net.links) step → has_token net.stations corp step.from ≡ true → EndsWalk net corp step
  GoesOn : (step next : Step) → EndsWalk net corp step → is_terminal net.stops net.stations corp step.to ≡ false → Contains (steps_of net.links) next → may_follow step next ≡ true → EndsWalk net corp next

-- a walk ends with the link of this number
pub record ReachesLink (net : Net) (corp : Corp) (number : ℕ) : Type 0 where
  pub step : Step
  pub walk : EndsWalk net corp step
  pub over : step.number ≡ number

-- a walk ends at this node
pub record WalksTo (net : Net) (corp : Corp) (node : Node) : Type 0 where
  pub step : Step
  pub walk : EndsWalk net corp step
  pub there : same_node node step.to ≡ true

-- a token stands there, or a walk ends there
abbrev pub ReachesNode : Net → Corp → Node → Type 0
ReachesNode net corp node = (has_token net.stations corp node ≡ true) ⊎ WalksTo net corp node

-- the steps with which a corporation's walks end, and its tokens among all
pub record Reached : Type 0 where
  pub corp : Corp
  pub stations : List Station
  pub steps : List Step

abbrev pub reaches_link : Reached → ℕ → Bool
reaches_link reached number = list_any (λ step. step.number == number) reached.steps

abbrev pub reaches_node : Reached → Node → Bool
reaches_node reached node = has_token reached.stations reached.corp node || list_any (λ step. same_node node step.to) reached.steps

-- a walk that ends with the first step may go on by the second
abbrev pub goes_on : Net → Corp → Step → Step → Bool
goes_on net corp step next = not (is_terminal net.stops net.stations corp step.to) && may_follow step next
