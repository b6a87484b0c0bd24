-- Links gone over from one end to the other.
use Rattle.std.specs.Prelude.{◌≡◌, ℕ, ◌<◌, ◌==◌, ◌&&◌, ◌⊎◌, not, Bool, true, false, Option, None, Some, List, slice_get}
use Rattle.std.specs.List.{list_any}
use Rattle.rr_routes.specs.declared.net.Node.{Node}
use Rattle.rr_routes.specs.declared.net.Node.TheVariants.{Hexside, Centre}
use Rattle.rr_routes.specs.declared.net.Link.{Link}
use Rattle.rr_routes.specs.declared.certificate.Fate.{Fate}
use Rattle.rr_routes.specs.declared.certificate.Fate.TheVariants.{Open, Denied, Of}
use Rattle.rr_routes.specs.Net.{Net, LinkAt}
use Rattle.rr_checker.specs.declared.step.Step.{Step}

abbrev pub same_node : Node → Node → Bool
same_node (Hexside side) (Hexside other) = side == other
same_node (Hexside side) (Centre other) = false
same_node (Centre centre) (Hexside other) = false
same_node (Centre centre) (Centre other) = centre == other

-- a link of this fate may be used by the train
abbrev pub allows : Fate → ℕ → Bool
allows Open train = true
allows Denied train = false
allows (Of owner) train = owner == train

abbrev pub has_token : Net → Node → Bool
has_token net (Hexside side) = false
has_token net (Centre centre) = list_any (λ token. token == centre) net.tokens

abbrev pub is_terminal : Net → Node → Bool
is_terminal net (Hexside side) = false
is_terminal net (Centre centre) = list_any (λ terminal. terminal == centre) net.terminals

-- a link from its hexside to its other end
abbrev pub forward : ℕ → Link → Step
forward place link = record { link = place; hex = link.hex; from = Hexside link.side; to = link.other }

-- a link from its other end to its hexside
abbrev pub backward : ℕ → Link → Step
backward place link = record { link = place; hex = link.hex; from = link.other; to = Hexside link.side }

-- the step goes over one of the first so many links
pub record HasStep (net : Net) (count : ℕ) (step : Step) : Type 0 where
  pub inside : step.link < count
  pub over : (link : Link) × LinkAt net step.link link × ((step ≡ forward step.link link) ⊎ (step ≡ backward step.link link))

-- a walk passes a hexside from one hex into the other, and any node to another link
abbrev pub passes_at : Node → Step → Step → Bool
passes_at (Hexside side) step next = not (step.link == next.link) && not (step.hex == next.hex)
passes_at (Centre centre) step next = not (step.link == next.link)

-- the second step begins where the first one ends, and passes that node
abbrev pub may_follow : Step → Step → Bool
may_follow step next = same_node step.to next.from && passes_at step.to step next

-- a walk that ends with the first step may go on by the second
abbrev pub goes_on : Net → Step → Step → Bool
goes_on net step next = not (is_terminal net step.to) && may_follow step next

-- a walk that ends with the step may go on by the one at that place, if its node isn't terminal
abbrev pub next_follows : Step → Option Step → Bool
next_follows step None = false
next_follows step (Some next) = may_follow step next

abbrev pub follows : List Step → Step → ℕ → Bool
follows steps step place = next_follows step (slice_get steps place)
